-- 20h: a satellite (document 01).
use Rattle.std.specs.Prelude.{List, [], ◌∷◌, ℕ, Result}
use Rattle.encoding.specs.Encoding.{decoded_as}
use Rattle.numbers.specs.Types.{int8u_at}
use Rattle.rows.specs.Layout.{Row, INT8U, joined}
use Rattle.fields_20.specs.declared.Satellite.{Satellite}

-- the fields, by their offsets
unfoldable pub fields_of : List ℕ → Satellite
fields_of d = record {
  system = int8u_at d 0;
  number = int8u_at d 1;
}

-- the rows, in their order
abbrev pub rows_of : Satellite → List Row
rows_of f =
    INT8U f.system
    ∷ INT8U f.number
    ∷ []

-- the data
unfoldable pub data_of : Satellite → List ℕ
data_of f = joined (rows_of f)

-- what a decoding answers, by the data's refusal
abbrev pub decoded_of : List ℕ → Result Satellite ℕ
decoded_of = decoded_as 0x20 fields_of
