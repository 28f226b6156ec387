-- Document 02, Point 11: a record of the journal, and the records of a list of messages.
use Rattle.std.specs.Prelude.{cond, List, [], ◌∷◌, ◌++◌, ℕ, eqb, length, Option, None, Some}
use Rattle.numbers.specs.Number.{bytes_of}
use Rattle.columns.specs.Columns.{by_columns, by_rows}
use Rattle.batch.specs.Entries.{Entry}
use Rattle.journal.specs.declared.Layout.{Layout}

-- the repeated entries of a kind: the bytes before them, and their width; a width of 0 is a kind without them
unfoldable pub layout_of : ℕ → Layout
layout_of id =
    cond (eqb id 0x47) (record { header = 0; width = 3 })
    (cond (eqb id 0x52) (record { header = 0; width = 7 })
    (cond (eqb id 0xF5) (record { header = 27; width = 30 })
    (record { header = 0; width = 0 })))

-- the one that a call returned
abbrev pub layout : Option Layout → Layout
layout (Some l) = l
layout None = record { header = 0; width = 0 }

-- the data as it is stored, and in line order again
abbrev pub stored : ℕ → List ℕ → List ℕ
stored id d = by_columns (layout_of id).header (layout_of id).width d

abbrev pub restored : ℕ → List ℕ → List ℕ
restored id d = by_rows (layout_of id).header (layout_of id).width d

-- the mark, the identifier, the 16-bit length low byte first
abbrev pub head_bytes : ℕ → ℕ → List ℕ
head_bytes id n = 0x4E ∷ 0x56 ∷ id ∷ bytes_of 2 n

-- these and the data
abbrev pub record_of : Entry → List ℕ
record_of x = head_bytes x.id (length x.body) ++ stored x.id x.body

-- one after the other
unfoldable pub records_of : List Entry → List ℕ
records_of [] = []
records_of (x ∷ xs) = record_of x ++ records_of xs
