-- The turns are counted down.
use Rattle.streaming.proofs.read_some.Given as goal

abbrev pub decreases-loop-n : goal.decreases-loop-n
decreases-loop-n l = l.turns
