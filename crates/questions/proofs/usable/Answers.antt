-- `questions::usable` meets its contract: the three service codes are no identifiers.
use Rattle.std.proofs.lemmas.Grind.{common_steps}
use Rattle.std.proofs.Common.{arith}
use mathlib.Core.Path.{subst⁻¹}
use Rattle.line.proofs.Classes.{class_other}
use Rattle.record.proofs.Data.{is_dle, is_etx, is_sum}
use Rattle.questions.proofs.usable.Goals as goal

pub returns : goal.returns
returns c = grind (arith, common_steps, subst⁻¹, is_etx, is_dle, is_sum, class_other)
