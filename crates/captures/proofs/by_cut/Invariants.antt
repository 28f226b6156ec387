-- `captures::by_cut`: each turn takes a byte or more.
use Rattle.std.proofs.Common.{◌-◌, length}
use Rattle.captures.proofs.by_cut.Given as goal

abbrev pub decreases-loop-done : goal.decreases-loop-done
decreases-loop-done l = length l.s - l.done
