-- `cross` meets its contract. The loop's invariant: the first j columns are placed behind the header.
use mathlib.Core.Path.{◌≡◌}
use Rattle.columns.proofs.ColumnLaws.{crossed_to}
use Rattle.columns.proofs.cross.Given as goal

abbrev pub invariant-loop-j : goal.invariant-loop-j
invariant-loop-j l = l.buf ≡ crossed_to l.src l.header l.n l.w l.initial.buf l.at l.j
