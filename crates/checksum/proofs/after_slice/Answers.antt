-- `checksum::after_slice` meets its contract. The loop's invariant: the bytes still to go take the register to the result.
use Rattle.std.proofs.Common.{add-one, arith, drop-cons}
use lib.Seq.{drop-length}
use Rattle.checksum.specs.Checksum.{after_bytes}
use Rattle.checksum.proofs.after_slice.Goals as goal
use Rattle.std.proofs.lemmas.Grind.{common_steps}

pub loop-b-preserved : goal.loop-b-preserved
unfolding after_bytes
loop-b-preserved c = grind (arith, common_steps, add-one, drop-cons)

pub returns : goal.returns
unfolding after_bytes
returns c = grind (arith, common_steps, drop-length)
