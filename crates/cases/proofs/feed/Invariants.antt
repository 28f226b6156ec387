-- `cases::feed`: each turn takes a byte or more.
use Rattle.std.proofs.Common.{length}
use Rattle.cases.proofs.feed.Given as goal

abbrev pub decreases-loop-more : goal.decreases-loop-more
decreases-loop-more g l = length l.rest
