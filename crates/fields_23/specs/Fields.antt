-- 23h: a zone, or none (document 01).
use Rattle.std.specs.Prelude.{List, [], ◌∷◌, ℕ, Result, length, take}
use Rattle.encoding.specs.Encoding.{decoded_as}
use Rattle.numbers.specs.Types.{int8s_at}
use Rattle.rows.specs.Layout.{Row, INT8U, INT8S, joined}
use Rattle.fields_23.specs.declared.Zone.{Zone}

-- the fields, by their offsets; without bytes hours and minutes are 0
unfoldable pub fields_of : List ℕ → Zone
fields_of d = record {
  count = length d;
  hours = int8s_at d 0;
  minutes = int8s_at d 1;
}

-- a third row stands for any more bytes than a zone has: a length that is refused
abbrev pub all_rows : Zone → List Row
all_rows f =
    INT8S f.hours
    ∷ INT8S f.minutes
    ∷ INT8U 0
    ∷ []

-- the rows, in their order: as many as the count says, the others are ignored
abbrev pub rows_of : Zone → List Row
rows_of f = take f.count (all_rows f)

-- the data
unfoldable pub data_of : Zone → List ℕ
data_of f = joined (rows_of f)

-- what a decoding answers, by the data's refusal
abbrev pub decoded_of : List ℕ → Result Zone ℕ
decoded_of = decoded_as 0x23 fields_of
