-- The round trips of a kind, said of what its calls return: w and b' are an encoding's answer and the buffer afterwards, r a
-- decoding's answer, each as the call's contract has it.
use Rattle.std.specs.Prelude.{List, ◌≡◌, ℕ, ◌≤◌, length, take}
use Rattle.octets.specs.Placing.{placed}
use Rattle.octets.specs.Delivery.{accepted}
use Rattle.octets.specs.Delivery.{Written}
use Rattle.encoding.specs.Encoding.{encoded_of, encoded_into}

-- a kind: its identifier, the data of its fields, what its decoding answers, and the answer that holds these fields
module _ {T D : Type 0} (id : ℕ) (data_of : T → List ℕ) (decoded_of : List ℕ → D) (holding : T → D) where
  -- what an encoding wrote is decoded to its fields
  abbrev pub EncodeDecode : (T → Type 0) → Type 0
  EncodeDecode Fits = (f : T) (b b' : List ℕ) (w : Written) (r : D) → Fits f
      → w ≡ encoded_of id (data_of f) b → b' ≡ encoded_into id (data_of f) b → w.refusal ≡ 0
      → r ≡ decoded_of (take w.length b') → r ≡ holding f

  -- fields that were decoded are encoded to their data, where there is room for it
  abbrev pub DecodeEncode : (List ℕ → Type 0) → Type 0
  DecodeEncode Fits = (d b b' : List ℕ) (f : T) (w : Written) (r : D) → Fits d
      → r ≡ decoded_of d → r ≡ holding f → length d ≤ length b
      → w ≡ encoded_of id (data_of f) b → b' ≡ encoded_into id (data_of f) b
      → (w ≡ accepted (length d)) × (b' ≡ placed b 0 d)
