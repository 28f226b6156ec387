-- A set of satellites, kept as the bits of a word: the bit at a satellite's place among the 56 is 1 where it is in the set.
use Rattle.std.specs.Prelude.{ℕ, ◌/◌, ◌%◌, ◌^◌}
use Rattle.std.specs.Int.Bits.{bit_or}

-- the bit at a place
abbrev pub bit : ℕ → ℕ → ℕ
bit w p = w / 2 ^ p % 2

-- the word with the bit at a place set
unfoldable pub with_bit : ℕ → ℕ → ℕ
with_bit w p = bit_or w (2 ^ p)
