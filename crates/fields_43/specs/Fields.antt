-- 43h: a result byte between a 2 and four zeros (document 01).
use Rattle.std.specs.Prelude.{Bool, cond, ◌&&◌, List, [], ◌∷◌, ℕ, Result, ◌+◌, ◌*◌, ◌/◌, ◌%◌, eqb, leb}
use Rattle.ranges.specs.Ranges.{antenna}
use Rattle.encoding.specs.Encoding.{decoded_as}
use Rattle.numbers.specs.Types.{int8u_at}
use Rattle.rows.specs.Layout.{Row, INT8U, joined}
use Rattle.fields_43.specs.declared.Outcome.{Outcome}

-- of a result byte: bits 7–6 (antenna), 5 (GLONASS), 4 (GPS) and 3–0
abbrev pub result_of : ℕ → Outcome
result_of b = record {
  antenna = antenna b;
  glonass = eqb (b / 32 % 2) 1;
  gps = eqb (b / 16 % 2) 1;
  low = b % 16;
}

abbrev pub bit_of : Bool → ℕ
bit_of b = cond b 1 0

-- the result byte has room for the parts
abbrev pub room : Outcome → Bool
room f = leb f.antenna 3 && leb f.low 15

-- the result byte of its parts; that of antenna 2, which is out of range, where there is no room for them
abbrev pub result_byte : Outcome → ℕ
result_byte f = cond (room f) (f.antenna * 64 + bit_of f.glonass * 32 + bit_of f.gps * 16 + f.low) 0x80

-- the fields, by their offsets
unfoldable pub fields_of : List ℕ → Outcome
fields_of d = result_of (int8u_at d 1)

-- the rows, in their order
abbrev pub rows_of : Outcome → List Row
rows_of f =
    INT8U 2
    ∷ INT8U (result_byte f)
    ∷ INT8U 0
    ∷ INT8U 0
    ∷ INT8U 0
    ∷ INT8U 0
    ∷ []

-- the data
unfoldable pub data_of : Outcome → List ℕ
data_of f = joined (rows_of f)

-- what a decoding answers, by the data's refusal
abbrev pub decoded_of : List ℕ → Result Outcome ℕ
decoded_of = decoded_as 0x43 fields_of
