-- The order of an encoding's questions, and what it leaves, computed.
use mathlib.Core.List.{[], ◌∷◌}
use mathlib.Core.Path.{◌≡◌, refl}
use Rattle.octets.specs.Placing.{placed}
use Rattle.kinds.specs.Kinds.{table, row_in, allows, length_ok, content}
use Rattle.octets.specs.Delivery.{refused, accepted, written_of, filled_of}
use Rattle.encoding.specs.Encoding.{encoded_of, encoded_into}

-- the data's refusal comes before 13
pub in_order : (encoded_of 0x00 [] [] ≡ refused 10) × (encoded_of 0x20 (2 ∷ []) [] ≡ refused 11) × (encoded_of 0x20 (2 ∷ 25 ∷ []) [] ≡ refused 12)
    × (encoded_of 0x20 (2 ∷ 24 ∷ []) (9 ∷ []) ≡ refused 13) × (encoded_of 0x20 (2 ∷ 24 ∷ []) (9 ∷ 9 ∷ []) ≡ accepted 2)
unfolding written_of table row_in allows length_ok content
in_order = (refl, refl, refl, refl, refl)

pub left : (encoded_into 0x20 (2 ∷ 24 ∷ []) (9 ∷ 9 ∷ 9 ∷ []) ≡ 2 ∷ 24 ∷ 9 ∷ []) × (encoded_into 0x20 (2 ∷ 25 ∷ []) (9 ∷ 9 ∷ 9 ∷ []) ≡ 9 ∷ 9 ∷ 9 ∷ [])
unfolding filled_of placed table row_in allows length_ok content
left = (refl, refl)
