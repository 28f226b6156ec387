-- Small rearrangements, computed.
use mathlib.Core.List.{[], ◌∷◌}
use mathlib.Core.Path.{◌≡◌, refl}
use Rattle.encoding.specs.Entries.{firsts, laid_out}
use Rattle.columns.specs.Columns.{crossed, whole, by_columns, by_rows}

-- two entries of three bytes after a header of one; back again
pub columns : (by_columns 1 3 (9 ∷ 1 ∷ 2 ∷ 3 ∷ 4 ∷ 5 ∷ 6 ∷ []) ≡ 9 ∷ 1 ∷ 4 ∷ 2 ∷ 5 ∷ 3 ∷ 6 ∷ [])
    × (by_rows 1 3 (9 ∷ 1 ∷ 4 ∷ 2 ∷ 5 ∷ 3 ∷ 6 ∷ []) ≡ 9 ∷ 1 ∷ 2 ∷ 3 ∷ 4 ∷ 5 ∷ 6 ∷ [])
unfolding by_columns by_rows whole crossed firsts laid_out
columns = (refl, refl)

-- a byte too many, a width of none, a header cut short: as it is
pub others : (by_columns 0 2 (1 ∷ 2 ∷ 3 ∷ []) ≡ 1 ∷ 2 ∷ 3 ∷ []) × (by_columns 0 0 (1 ∷ 2 ∷ []) ≡ 1 ∷ 2 ∷ []) × (by_rows 3 1 (1 ∷ 2 ∷ []) ≡ 1 ∷ 2 ∷ [])
unfolding by_columns by_rows whole
others = (refl, refl, refl)
