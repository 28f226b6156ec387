-- `answering::each_line`: each turn takes a line.
use Rattle.std.proofs.Common.{length}
use Rattle.answering.proofs.each_line.Given as goal

abbrev pub decreases-loop-rest : goal.decreases-loop-rest
decreases-loop-rest g l = length l.rest
