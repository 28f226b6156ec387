-- Laws of the checksum: bytes one after the other, the identifier first, and that a register of 16 bits stays one.
use mathlib.Core.Path.{◌≡◌, refl}
use mathlib.Core.List.{List, [], ◌∷◌, ◌++◌}
use Prim.Native.Nat.{ℕ, ◌*◌, ◌/◌, ◌%◌, ◌<◌}
use native.Mathlib.Omega.{arith}
use lib.Bits.{bit_xor, xor_lt}
use Rattle.stuffing.specs.Stuffing.{stuffed}
use Rattle.checksum.specs.Checksum.{divisor, shifted, shifted_by, after_byte, after_bytes, checksum}

pub after_append : (r : ℕ) (s t : List ℕ) → after_bytes r (s ++ t) ≡ after_bytes (after_bytes r s) t
unfolding after_bytes
after_append r [] t = refl
after_append r (b ∷ s) t = after_append (after_byte r b) s t

-- the identifier comes in at the top of a register that is 0
pub begun : (id : ℕ) (d : List ℕ) → after_bytes (shifted_by 8 (bit_xor (shifted_by 8 0) (id * 256))) (stuffed d) ≡ checksum id d
unfolding shifted shifted_by after_byte after_bytes checksum
begun id d = refl

pub shifted_lt : (r : ℕ) → r < 65536 → shifted r < 65536
unfolding shifted
shifted_lt r h = xor_lt 16 (r * 2 % 65536) (r / 32768 * divisor) (omega arith) (omega arith)
