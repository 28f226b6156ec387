-- `day_before` meets its contract: the day, the month and the year, in this order.
use Rattle.std.proofs.lemmas.Grind.{common_steps}
use Rattle.std.proofs.Common.{arith}
use Rattle.dates.proofs.RollLaws.{not_rollable, back_day, back_month, back_year, back_end}
use Rattle.dates.proofs.day_before.Goals as goal

pub returns-then-not-can_roll : goal.returns-then-not-can_roll
returns-then-not-can_roll c = grind (arith, common_steps, not_rollable)

pub returns-then-d-gt1 : goal.returns-then-d-gt1
returns-then-d-gt1 c = grind (arith, common_steps, back_day)

pub returns-then-d-gt1-2 : goal.returns-then-d-gt1-2
returns-then-d-gt1-2 c = grind (arith, common_steps, back_month)

pub returns-then-d-gt-FIRST_YEAR : goal.returns-then-d-gt-FIRST_YEAR
returns-then-d-gt-FIRST_YEAR c = grind (arith, common_steps, back_year)

pub returns : goal.returns
returns c = grind (arith, common_steps, back_end)
