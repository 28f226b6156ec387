-- `are_entries` meets its contract: the product says what the quotient says.
use mathlib.Core.Path.{◌≡◌, refl, ap, ◌∙◌}
use Prim.Native.Nat.{◌%◌}
use borrow.Author.Tests.{eq-eqb}
use lib.Dec.{leb}
use Rattle.kinds.proofs.RowLaws.{cut, entries_fit}
use Rattle.kinds.proofs.are_entries.Goals as goal

pub returns-then-is_multiple_of : goal.returns-then-is_multiple_of
returns-then-is_multiple_of c =
    let a = c.args in
    let whole : a.n % a.width ≡ 0 = c.if-is_multiple_of.ensures.0 refl in
    rw (eq-eqb _ _ whole) (ap (leb a.n) c.saturating_mul.ensures ∙ cut a.n _ c.ranges.n.fits ∙ entries_fit a.n a.width a.most whole)
