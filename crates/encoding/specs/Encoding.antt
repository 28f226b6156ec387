-- Document 01, questions 10 to 13 of an encoding: its text is the data, which is refused as the message would be.
use Rattle.std.specs.Prelude.{cond, eqb, List, ℕ, Result, Ok, Err}
use Rattle.octets.specs.Delivery.{written_of, filled_of}
use Rattle.octets.specs.Delivery.{Written}
use Rattle.kinds.specs.Kinds.{content}

-- the answer for the data d of a kind, and the buffer afterwards
abbrev pub encoded_of : ℕ → List ℕ → List ℕ → Written
encoded_of id d b = written_of (content id d) d b

abbrev pub encoded_into : ℕ → List ℕ → List ℕ → List ℕ
encoded_into id d b = filled_of (content id d) d b

-- what a decoding answers, by the data's refusal: the fields, or its number
abbrev pub decoded_as : {T : Type 0} → ℕ → (List ℕ → T) → List ℕ → Result T ℕ
decoded_as id fields_of d = cond (eqb (content id d) 0) (Ok (fields_of d)) (Err (content id d))
