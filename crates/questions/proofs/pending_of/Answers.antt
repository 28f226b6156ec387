-- `record::pending_of` meets its contract: the place, the data and each DLE among them.
use Rattle.std.proofs.lemmas.Grind.{common_steps}
use Rattle.std.proofs.Common.{arith, length-take-le}
use Rattle.stuffing.proofs.StuffingLaws.{dles_le}
use Rattle.questions.proofs.pending_of.Goals as goal

pub overflow_add-result : goal.overflow_add-result
overflow_add-result c = grind (arith, common_steps, length-take-le, dles_le)

pub overflow_add-result-2 : goal.overflow_add-result-2
overflow_add-result-2 c = grind (arith, common_steps, length-take-le, dles_le)
