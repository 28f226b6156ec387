-- `put_sum` meets its contract: nothing in mode 0, and in mode 1 what `sum_bytes` and `put` say.
use Rattle.std.proofs.lemmas.Grind.{common_steps}
use native.Mathlib.Omega.{arith}
use Rattle.std.proofs.Common.{add-zero}
use Rattle.octets.proofs.PlacingLaws.{placed_nil}
use Rattle.writer.proofs.put_sum.Goals as goal

pub returns-then-mode-eq0 : goal.returns-then-mode-eq0
returns-then-mode-eq0 c = grind (arith, common_steps, add-zero, placed_nil)
