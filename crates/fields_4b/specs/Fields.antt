-- 4Bh: GPS, GLONASS and UTC time scales (002, Table 48).
-- The sources differ in the first two rows: here A0 is at 0 and A1 at 8, while 000's Table 41 has A1 first.
use Rattle.std.specs.Prelude.{List, [], ◌∷◌, ℕ, Result}
use Rattle.encoding.specs.Encoding.{decoded_as}
use Rattle.numbers.specs.Types.{int8u_at, int16u_at, int16s_at, int32u_at, fp64_at}
use Rattle.rows.specs.Layout.{Row, INT8U, INT16U, INT16S, INT32U, FP64, joined}
use Rattle.fields_4b.specs.declared.Scales.{Scales}

-- the fields, by their offsets
unfoldable pub fields_of : List ℕ → Scales
fields_of d = record {
  a0 = fp64_at d 0;
  a1 = fp64_at d 8;
  tot = int32u_at d 16;
  wnt = int16u_at d 20;
  dt_ls = int16s_at d 22;
  wn_lsf = int16u_at d 24;
  dn = int16u_at d 26;
  dt_lsf = int16s_at d 28;
  gps_reliable = int8u_at d 30;
  na = int16u_at d 31;
  tau_c = fp64_at d 33;
  glonass_reliable = int8u_at d 41;
}

-- the rows, in their order
abbrev pub rows_of : Scales → List Row
rows_of f =
    FP64 f.a0
    ∷ FP64 f.a1
    ∷ INT32U f.tot
    ∷ INT16U f.wnt
    ∷ INT16S f.dt_ls
    ∷ INT16U f.wn_lsf
    ∷ INT16U f.dn
    ∷ INT16S f.dt_lsf
    ∷ INT8U f.gps_reliable
    ∷ INT16U f.na
    ∷ FP64 f.tau_c
    ∷ INT8U f.glonass_reliable
    ∷ []

-- the data
unfoldable pub data_of : Scales → List ℕ
data_of f = joined (rows_of f)

-- what a decoding answers, by the data's refusal
abbrev pub decoded_of : List ℕ → Result Scales ℕ
decoded_of = decoded_as 0x4B fields_of
