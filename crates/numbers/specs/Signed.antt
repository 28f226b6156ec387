-- Document 01, "Kinds and fields": INT8S is signed, two's complement; so is INT16S.
use Rattle.std.specs.Prelude.{cond, ℕ, ◌-◌, ◌^◌, ltb, ℤ, pos, negsuc}

-- n bits as a signed number: the lower half as it is, the upper half less 2 ^ n (negsuc k is -1 - k)
unfoldable pub signed : ℕ → ℕ → ℤ
signed n b = cond (ltb b (2 ^ (n - 1))) (pos b) (negsuc (2 ^ n - 1 - b))

-- the n bits of a signed number
unfoldable pub unsigned : ℕ → ℤ → ℕ
unsigned n (pos x) = x
unsigned n (negsuc x) = 2 ^ n - 1 - x

abbrev pub int8 : ℕ → ℤ
int8 b = signed 8 b

abbrev pub int16 : ℕ → ℤ
int16 v = signed 16 v
