-- `frame_length` meets its contract by the laws of the frame's length.
use Rattle.std.proofs.lemmas.Grind.{common_steps}
use Rattle.std.proofs.Common.{arith}
use Rattle.stuffing.proofs.StuffingLaws.{dles_le}
use Rattle.writer.proofs.FrameLength.{no_mode, too_long, plain_on_line, summed_on_line}
use Rattle.writer.proofs.frame_length.Goals as goal

pub returns-then-mode-gt1 : goal.returns-then-mode-gt1
returns-then-mode-gt1 c id = grind (arith, common_steps, no_mode, too_long)

pub overflow_add-n : goal.overflow_add-n
overflow_add-n c = omega (arith, dles_le c.args.body.now)

pub overflow_add-result : goal.overflow_add-result
overflow_add-result c = omega (arith, dles_le c.args.body.now)

pub returns-then-mode-eq0 : goal.returns-then-mode-eq0
returns-then-mode-eq0 c id = grind (arith, common_steps, plain_on_line)

pub overflow_add-result-else-mode-eq0 : goal.overflow_add-result-else-mode-eq0
overflow_add-result-else-mode-eq0 c = omega (arith, dles_le c.args.body.now)

pub returns-else-mode-eq0 : goal.returns-else-mode-eq0
returns-else-mode-eq0 c id = grind (arith, common_steps, summed_on_line)
