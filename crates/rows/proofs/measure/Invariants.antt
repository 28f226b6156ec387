-- `measure` meets its contract. The loop's invariant: the answer is that of the widths still to go and the room left.
use Rattle.std.proofs.Common.{◌≡◌, ◌+◌, ◌≤◌, drop}
use Rattle.rows.specs.Layout.{total, within}
use Rattle.rows.proofs.measure.Given as goal

abbrev pub invariant-loop-n : goal.invariant-loop-n
invariant-loop-n l =
    (within l.widths 130 ≡ within (drop l.n-index l.widths) l.left)
    × (total (drop l.n-index l.widths) + 130 ≡ total l.widths + l.left)
    × (l.left ≤ 130)
