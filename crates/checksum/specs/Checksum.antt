-- Document 01, "The frame": the checksum. Divisor x^16 + x^12 + x^5 + 1, a register of 16 bits that starts at 0 and takes the
-- highest bit of each byte first, no final inversion.
use Rattle.std.specs.Prelude.{◌≡◌, List, [], ◌∷◌, ℕ, zero, suc, ◌*◌, ◌/◌, ◌%◌, ◌<◌, length, get_or}
use Rattle.std.specs.Int.Bits.{bit_xor}
use Rattle.stuffing.specs.Stuffing.{stuffed}

-- the divisor but for its highest term: x^12 + x^5 + 1
abbrev pub divisor : ℕ
divisor = 0x1021

-- one place up; where a 1 leaves at the top, the divisor is taken away
unfoldable pub shifted : ℕ → ℕ
shifted r = bit_xor (r * 2 % 65536) (r / 32768 * divisor)

unfoldable pub shifted_by : ℕ → ℕ → ℕ
shifted_by zero r = r
shifted_by (suc n) r = shifted_by n (shifted r)

-- a byte comes in at the top: its highest bit leaves first
unfoldable pub after_byte : ℕ → ℕ → ℕ
after_byte r b = shifted_by 8 (bit_xor r (b * 256))

unfoldable pub after_bytes : ℕ → List ℕ → ℕ
after_bytes r [] = r
after_bytes r (b ∷ s) = after_bytes (after_byte r b) s

-- over identifier and stuffed data
unfoldable pub checksum : ℕ → List ℕ → ℕ
checksum id d = after_bytes 0 (id ∷ stuffed d)

-- c1 is the low byte
abbrev pub c1_of : ℕ → List ℕ → ℕ
c1_of id d = checksum id d % 256

abbrev pub c2_of : ℕ → List ℕ → ℕ
c2_of id d = checksum id d / 256

-- Document 02, Point 4: the numbers of a table of 256. Entry v is the register that byte v alone leaves from 0.
pub record Entries (t : List ℕ) : Type 0 where
  pub all : length t ≡ 256
  pub each : (v : ℕ) → v < 256 → get_or t v 0 ≡ after_byte 0 v
