-- EBh: GLONASS time scale parameters (000, Table 57).
use Rattle.std.specs.Prelude.{List, [], ◌∷◌, ℕ, Result}
use Rattle.encoding.specs.Encoding.{decoded_as}
use Rattle.numbers.specs.Types.{int8u_at, int16u_at, fp32_at, fp64_at}
use Rattle.rows.specs.Layout.{Row, INT8U, INT16U, FP32, FP64, joined}
use Rattle.fields_eb.specs.declared.GlonassTime.{GlonassTime}

-- the fields, by their offsets
unfoldable pub fields_of : List ℕ → GlonassTime
fields_of d = record {
  tau_c = fp64_at d 0;
  tau_gps = fp32_at d 8;
  na = int16u_at d 12;
  n4 = int8u_at d 14;
  reliable = int8u_at d 15;
  kp = int8u_at d 16;
  b1 = fp32_at d 17;
  b2 = fp32_at d 21;
  ut1_reliable = int8u_at d 25;
}

-- the rows, in their order
abbrev pub rows_of : GlonassTime → List Row
rows_of f =
    FP64 f.tau_c
    ∷ FP32 f.tau_gps
    ∷ INT16U f.na
    ∷ INT8U f.n4
    ∷ INT8U f.reliable
    ∷ INT8U f.kp
    ∷ FP32 f.b1
    ∷ FP32 f.b2
    ∷ INT8U f.ut1_reliable
    ∷ []

-- the data
unfoldable pub data_of : GlonassTime → List ℕ
data_of f = joined (rows_of f)

-- what a decoding answers, by the data's refusal
abbrev pub decoded_of : List ℕ → Result GlonassTime ℕ
decoded_of = decoded_as 0xEB fields_of
