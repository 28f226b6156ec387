-- `stuffing::count_dle` meets its contract.
use Rattle.std.proofs.Common.{add-one, arith, drop-cons}
use lib.Seq.{drop-length}
use Rattle.std.proofs.lemmas.Grind.{common_steps}
use Rattle.stuffing.specs.Stuffing.{dles}
use Rattle.stuffing.proofs.count_dle.Goals as goal

pub loop-b-preserved : goal.loop-b-preserved
unfolding dles
loop-b-preserved c = grind (arith, common_steps, add-one, drop-cons)

pub returns : goal.returns
unfolding dles
returns c = grind (arith, common_steps, drop-length)
