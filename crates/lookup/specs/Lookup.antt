-- Document 01, lookup in 52h data; of several entries with both system and number the first (document 02, Point 7).
use Rattle.std.specs.Prelude.{Bool, cond, ◌&&◌, List, ℕ, zero, suc, ◌/◌, eqb, length, Option, Some, None, Result, Ok, Err}
use Rattle.kinds.specs.Kinds.{content}
use Rattle.encoding.specs.Entries.{entry_slice}
use Rattle.fields_52.specs.Fields.{entry_of, visibles}
use Rattle.fields_52.specs.declared.Entry.{Entry}

-- the entry at an index
abbrev pub entry_at : List ℕ → ℕ → Entry
entry_at d i = entry_of (entry_slice visibles d i)

-- whether it has both
abbrev pub has : List ℕ → ℕ → ℕ → ℕ → Bool
has d s n i = eqb (entry_at d i).system s && eqb (entry_at d i).number n

-- of the k indices from i on, looked at from the front, the first that passes the test; or none
unfoldable pub first_from : (ℕ → Bool) → ℕ → ℕ → Option ℕ
first_from test i zero = None
first_from test i (suc k) = cond (test i) (Some i) (first_from test (suc i) k)

-- the data's refusal; where there is none, the first entry that has both
unfoldable pub found_in : List ℕ → ℕ → ℕ → Result (Option ℕ) ℕ
found_in d s n = cond (eqb (content 0x52 d) 0) (Ok (first_from (has d s n) 0 (length d / 7))) (Err (content 0x52 d))
