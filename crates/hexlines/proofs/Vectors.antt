-- What the definitions say of text at hand, computed.
use mathlib.Core.Path.{◌≡◌, refl}
use mathlib.Core.List.{[], ◌∷◌}
use Rattle.hexlines.specs.Lines.{line_length, digit_of, bytes_of}

-- "1F", and "A" alone
pub three_digits : bytes_of (49 ∷ 70 ∷ 65 ∷ []) ≡ 0x1F ∷ 0xA0 ∷ []
unfolding bytes_of digit_of
three_digits = refl

pub two_before : line_length (49 ∷ 70 ∷ 10 ∷ 65 ∷ []) ≡ 2
unfolding line_length
two_before = refl
