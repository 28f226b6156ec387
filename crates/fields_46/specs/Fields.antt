-- 46h: time, date and zone (000, Table 37).
use Rattle.std.specs.Prelude.{List, [], ◌∷◌, ℕ, Result}
use Rattle.encoding.specs.Encoding.{decoded_as}
use Rattle.numbers.specs.Types.{int8u_at, int8s_at, int16u_at, int32u_at}
use Rattle.rows.specs.Layout.{Row, INT8U, INT8S, INT16U, INT32U, joined}
use Rattle.fields_46.specs.declared.Time.{Time}

-- the fields, by their offsets
unfoldable pub fields_of : List ℕ → Time
fields_of d = record {
  second = int32u_at d 0;
  day = int8u_at d 4;
  month = int8u_at d 5;
  year = int16u_at d 6;
  hours = int8s_at d 8;
  minutes = int8s_at d 9;
}

-- the rows, in their order
abbrev pub rows_of : Time → List Row
rows_of f =
    INT32U f.second
    ∷ INT8U f.day
    ∷ INT8U f.month
    ∷ INT16U f.year
    ∷ INT8S f.hours
    ∷ INT8S f.minutes
    ∷ []

-- the data
unfoldable pub data_of : Time → List ℕ
data_of f = joined (rows_of f)

-- what a decoding answers, by the data's refusal
abbrev pub decoded_of : List ℕ → Result Time ℕ
decoded_of = decoded_as 0x46 fields_of
