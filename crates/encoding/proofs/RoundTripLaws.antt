-- The round trips of the calls, from those of the fields and the data.
use mathlib.Core.Path.{◌≡◌, refl, sym, ap, ◌∙◌}
use Rattle.std.specs.Prelude.{Result, Ok, Err}
use mathlib.Core.List.{List}
use mathlib.Core.Option.{Option, none, some, some-injective}
use Prim.Native.Nat.{ℕ}
use borrow.Author.Tests.{eq-eqb}
use lib.ListN.{take}
use Rattle.octets.proofs.DeliveryLaws.{written_judged, written_back, writes}
use Rattle.octets.specs.Delivery.{Written}
use Rattle.kinds.specs.Kinds.{content}
use Rattle.encoding.specs.Encoding.{encoded_of, encoded_into, decoded_as}
use Rattle.encoding.specs.RoundTrip.{EncodeDecode, DecodeEncode}
use Rattle.octets.specs.Bytes.{Bytes}
use Rattle.encoding.proofs.DecodedLaws.{answered}

module _ {T D : Type 0} (id : ℕ) (data_of : T → List ℕ) (decoded_of : List ℕ → D) (holding : T → D) where
  pub encode_decode : (Fits : T → Type 0) → ((f : T) → Fits f → content id (data_of f) ≡ 0 → decoded_of (data_of f) ≡ holding f)
      → EncodeDecode id data_of decoded_of holding Fits
  encode_decode Fits known f b b' w r h ew eb z er =
      let d = data_of f in
      let y : (encoded_of id d b).refusal ≡ 0 = sym (ap (λ (x : Written). x.refusal) ew) ∙ z in
      let back : take w.length b' ≡ d = (λ k. take (ew k).length (eb k)) ∙ written_back (content id d) d b y in
      er ∙ ap decoded_of back ∙ known f h (written_judged (content id d) d b y).0

  pub decode_encode : (Fits : List ℕ → Type 0)
      → ((d : List ℕ) (f : T) → Fits d → decoded_of d ≡ holding f → (content id d ≡ 0) × (data_of f ≡ d))
      → DecodeEncode id data_of decoded_of holding Fits
  decode_encode Fits known d b b' f w r h er ef room ew eb =
      let q = known d f h (sym er ∙ ef) in
      let e = writes (content id d) d b q.0 room in (
        ew ∙ ap (λ (t : List ℕ). encoded_of id t b) q.1 ∙ e.0,
        eb ∙ ap (λ (t : List ℕ). encoded_into id t b) q.1 ∙ e.1,
      )

-- the fields of an answer, where it has any
abbrev held : {T : Type 0} → Result T ℕ → Option T
held (Ok f) = some f
held (Err n) = none

-- fields that were decoded are those of acceptable data
pub decoded_fields : {T : Type 0} (id : ℕ) (fields_of : List ℕ → T) (d : List ℕ) (f : T) → decoded_as id fields_of d ≡ Ok f
    → (content id d ≡ 0) × (fields_of d ≡ f)
decoded_fields id fields_of d f e =
    let q = answered held Ok Err (Ok (fields_of d)) (content id d) f (λ g. refl) (λ n. refl) e in
    (q.0, some-injective (fields_of d) f q.1)

-- a kind that is decoded by its layout
module _ {T : Type 0} (id : ℕ) (fields_of : List ℕ → T) (data_of : T → List ℕ) where
  -- `kept` is what the data keeps of the fields
  pub encode_fields : (Fits : T → Type 0) (kept : T → T) → ((f : T) → Fits f → content id (data_of f) ≡ 0 → fields_of (data_of f) ≡ kept f)
      → EncodeDecode id data_of (decoded_as id fields_of) (λ f. Ok (kept f)) Fits
  encode_fields Fits kept known =
      encode_decode id data_of (decoded_as id fields_of) (λ f. Ok (kept f)) Fits (λ f h c. rw (eq-eqb _ _ c) (ap Ok (known f h c)))

  pub decode_fields : ((d : List ℕ) → Bytes d → content id d ≡ 0 → data_of (fields_of d) ≡ d)
      → DecodeEncode id data_of (decoded_as id fields_of) Ok Bytes
  decode_fields known =
      decode_encode id data_of (decoded_as id fields_of) Ok Bytes (λ d f y e.
      let q = decoded_fields id fields_of d f e in
      (q.0, ap data_of (sym q.1) ∙ known d y q.0))
