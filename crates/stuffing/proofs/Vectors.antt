-- What the definitions say of bytes at hand, computed.
use mathlib.Core.Path.{◌≡◌, refl}
use mathlib.Core.List.{[], ◌∷◌}
use Rattle.stuffing.specs.Stuffing.{stuffed}

pub dle_twice : stuffed (0x10 ∷ 0x03 ∷ []) ≡ 0x10 ∷ 0x10 ∷ 0x03 ∷ []
unfolding stuffed
dle_twice = refl
