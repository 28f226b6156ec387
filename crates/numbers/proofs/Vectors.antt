-- What the definitions say of bytes at hand, computed.
use mathlib.Core.Path.{◌≡◌, refl}
use mathlib.Core.List.{[], ◌∷◌}
use Rattle.numbers.specs.Number.{number_of, bytes_of}

pub low_byte_first : (number_of (0x34 ∷ 0x12 ∷ []) ≡ 0x1234) × (bytes_of 2 0x1234 ≡ 0x34 ∷ 0x12 ∷ [])
unfolding number_of bytes_of
low_byte_first = (refl, refl)
