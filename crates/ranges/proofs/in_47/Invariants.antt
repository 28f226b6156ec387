-- `in_47` meets its contract: the bits are the places of the triples passed, none of them twice.

use Rattle.ranges.proofs.OnceLaws.{Seen}
use Rattle.ranges.proofs.in_47.Given as goal

abbrev pub invariant-loop-i : goal.invariant-loop-i
invariant-loop-i l = Seen l.body l.seen l.i
