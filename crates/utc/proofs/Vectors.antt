-- Both ends of dt, and the polynomial at numbers that were worked out by hand.
use mathlib.Core.Path.{◌≡◌, refl}
use lib.IntN.{pos, negsuc}
use lib.Ieee.{binary64, add, mul, of_int, of_bits, to_bits}
use Rattle.utc.specs.Offset.{elapsed, polynomial}

pub ends : (elapsed 604799 0 2127 2000 ≡ pos 77414399) × (elapsed 0 604799 2000 2127 ≡ negsuc 77414398)
ends = (refl, refl)

-- weeks 1,024 apart are 1,024 weeks apart
pub no_wrap : elapsed 0 0 1024 0 ≡ pos 619315200
no_wrap = refl

-- A0 = 2^60, A1 = -2^60, dt = 1, leap count 1: from the left it is 1; with A0 and the leap count added first it would be 0
pub from_the_left : to_bits binary64 (polynomial (of_bits binary64 0x43B0000000000000) (of_bits binary64 0xC3B0000000000000) (pos 1) (pos 1)) ≡ 0x3FF0000000000000
unfolding polynomial of_bits to_bits add mul of_int
from_the_left = refl
