-- What the definitions say of words at hand, computed.
use mathlib.Core.List.{[], ◌∷◌}
use mathlib.Core.Path.{◌≡◌, refl}
use Prim.Native.Nat.{◌+◌, ◌^◌}
use lib.ListN.{take, drop}
use Rattle.octets.specs.Delivery.{refused, accepted, written_of}
use Rattle.encoding.specs.Entries.{laid_out}
use Rattle.in_use.specs.InUse.{system_data, data_of, refusal_of}

-- bit 55 is a satellite's, bit 56 is not; 17 comes before 13
pub in_order : (refusal_of (2 ^ 55) ≡ 0) × (refusal_of (2 ^ 56) ≡ 17) × (refusal_of (2 ^ 63) ≡ 17)
    × (written_of (refusal_of (2 ^ 56)) (data_of (2 ^ 56)) [] ≡ refused 17) × (written_of (refusal_of (2 ^ 55)) (data_of (2 ^ 55)) [] ≡ refused 13)
    × (written_of (refusal_of 0) (data_of 0) (data_of 1) ≡ accepted 168)
unfolding written_of refusal_of data_of system_data laid_out
in_order = (refl, refl, refl, refl, refl, refl)

-- GPS 1 and 2, GPS 32 and GLONASS 1, GLONASS 24, of the word with bits 0, 32 and 55
pub laid : (take 6 (data_of (2 ^ 55 + 2 ^ 32 + 1)) ≡ 1 ∷ 1 ∷ 1 ∷ 1 ∷ 2 ∷ 2 ∷ [])
    × (take 6 (drop 93 (data_of (2 ^ 55 + 2 ^ 32 + 1))) ≡ 1 ∷ 32 ∷ 2 ∷ 2 ∷ 1 ∷ 1 ∷ []) × (drop 165 (data_of (2 ^ 55 + 2 ^ 32 + 1)) ≡ 2 ∷ 24 ∷ 1 ∷ [])
unfolding data_of system_data laid_out
laid = (refl, refl, refl)
