-- Small journals, computed: records, the order of the refusals, and a message in line order again.
use mathlib.Core.List.{List, [], ◌∷◌}
use mathlib.Core.Path.{◌≡◌, refl}
use Prim.Native.Nat.{ℕ}
use Rattle.numbers.specs.Number.{number_of, number_at, bytes_of}
use Rattle.kinds.specs.Kinds.{table, row_in, allows, length_ok, content}
use Rattle.encoding.specs.Entries.{firsts, laid_out}
use Rattle.columns.specs.Columns.{crossed, whole, by_columns, by_rows}
use Rattle.journal.specs.Records.{layout_of, records_of}
use Rattle.journal.specs.Calls.{nothing, given, read_of}

-- 26h without data, then 52h with two satellites: 1 of GPS, 5 of GLONASS on channel 0
abbrev pub two : List ℕ
two = 1 ∷ 1 ∷ 10 ∷ 20 ∷ 30 ∷ 0 ∷ 40 ∷ 2 ∷ 5 ∷ 0 ∷ 21 ∷ 31 ∷ 0 ∷ 41 ∷ []

pub laid : records_of (record { id = 0x26; body = [] } ∷ record { id = 0x52; body = two } ∷ [])
    ≡ 0x4E ∷ 0x56 ∷ 0x26 ∷ 0 ∷ 0
    ∷ 0x4E ∷ 0x56 ∷ 0x52 ∷ 14 ∷ 0 ∷ 1 ∷ 2 ∷ 1 ∷ 5 ∷ 10 ∷ 0 ∷ 20 ∷ 21 ∷ 30 ∷ 31 ∷ 0 ∷ 0 ∷ 40 ∷ 41 ∷ []
unfolding records_of layout_of bytes_of by_columns whole crossed firsts laid_out
laid = refl

-- the end; 21 of a single byte, whichever; 20 before 21; 21 of a cut head, and before 10; then 10 and 11
pub refusals : (read_of [] ≡ nothing 0)
    × (read_of (0x4E ∷ []) ≡ nothing 21)
    × (read_of (0x00 ∷ []) ≡ nothing 21)
    × (read_of (0x4E ∷ 0x4E ∷ []) ≡ nothing 20)
    × (read_of (0x56 ∷ 0x4E ∷ 0x26 ∷ 0 ∷ 0 ∷ []) ≡ nothing 20)
    × (read_of (0x4E ∷ 0x56 ∷ []) ≡ nothing 21)
    × (read_of (0x4E ∷ 0x56 ∷ 0x00 ∷ 1 ∷ 0 ∷ []) ≡ nothing 21)
    × (read_of (0x4E ∷ 0x56 ∷ 0x00 ∷ 0 ∷ 0 ∷ []) ≡ nothing 10)
    × (read_of (0x4E ∷ 0x56 ∷ 0x26 ∷ 1 ∷ 0 ∷ 7 ∷ []) ≡ nothing 11)
unfolding read_of number_at number_of layout_of by_rows whole content table row_in allows length_ok
refusals = (refl, refl, refl, refl, refl, refl, refl, refl, refl)

-- a record, and a byte after it
pub one : read_of (0x4E ∷ 0x56 ∷ 0x26 ∷ 0 ∷ 0 ∷ 0xFF ∷ []) ≡ given 0x26 []
unfolding read_of number_at number_of layout_of by_rows whole content table row_in allows length_ok
one = refl
