-- `fill` meets its contract. The loop's invariant: placing the words still to go is placing all of them.
use lib.ListN.{length}
use Rattle.rows.proofs.RowLaws.{Left}
use Rattle.rows.proofs.fill.Given as goal

abbrev pub invariant-loop-n : goal.invariant-loop-n
invariant-loop-n l = Left l.widths l.words l.initial.out l.out l.at (length l.yielded)
