-- 4Ah: ionosphere parameters (000, Table 40).
use Rattle.std.specs.Prelude.{List, [], ◌∷◌, ℕ, Result}
use Rattle.encoding.specs.Encoding.{decoded_as}
use Rattle.numbers.specs.Types.{int8u_at, fp32_at}
use Rattle.rows.specs.Layout.{Row, INT8U, FP32, joined}
use Rattle.fields_4a.specs.declared.Ionosphere.{Ionosphere}

-- the fields, by their offsets
unfoldable pub fields_of : List ℕ → Ionosphere
fields_of d = record {
  alpha0 = fp32_at d 0;
  alpha1 = fp32_at d 4;
  alpha2 = fp32_at d 8;
  alpha3 = fp32_at d 12;
  beta0 = fp32_at d 16;
  beta1 = fp32_at d 20;
  beta2 = fp32_at d 24;
  beta3 = fp32_at d 28;
  reliable = int8u_at d 32;
}

-- the rows, in their order
abbrev pub rows_of : Ionosphere → List Row
rows_of f =
    FP32 f.alpha0
    ∷ FP32 f.alpha1
    ∷ FP32 f.alpha2
    ∷ FP32 f.alpha3
    ∷ FP32 f.beta0
    ∷ FP32 f.beta1
    ∷ FP32 f.beta2
    ∷ FP32 f.beta3
    ∷ INT8U f.reliable
    ∷ []

-- the data
unfoldable pub data_of : Ionosphere → List ℕ
data_of f = joined (rows_of f)

-- what a decoding answers, by the data's refusal
abbrev pub decoded_of : List ℕ → Result Ionosphere ℕ
decoded_of = decoded_as 0x4A fields_of
