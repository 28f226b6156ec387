-- What the types of the sources' tables mean, read at an offset. FP32 and FP64 are kept as their bits.
use Rattle.std.specs.Prelude.{List, ℕ, ℤ}
use Rattle.numbers.specs.Number.{number_at}
use Rattle.numbers.specs.Signed.{int8, int16}

abbrev pub int8u_at : List ℕ → ℕ → ℕ
int8u_at d at = number_at d at 1

abbrev pub int8s_at : List ℕ → ℕ → ℤ
int8s_at d at = int8 (number_at d at 1)

abbrev pub int16u_at : List ℕ → ℕ → ℕ
int16u_at d at = number_at d at 2

abbrev pub int16s_at : List ℕ → ℕ → ℤ
int16s_at d at = int16 (number_at d at 2)

abbrev pub int32u_at : List ℕ → ℕ → ℕ
int32u_at d at = number_at d at 4

abbrev pub fp32_at : List ℕ → ℕ → ℕ
fp32_at d at = number_at d at 4

abbrev pub fp64_at : List ℕ → ℕ → ℕ
fp64_at d at = number_at d at 8
