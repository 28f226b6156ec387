-- `day_after` meets its contract: the day, the month and the year, in this order.
use Rattle.std.proofs.lemmas.Grind.{common_steps}
use Rattle.std.proofs.Common.{arith}
use Rattle.dates.proofs.RollLaws.{not_rollable, forward_day, forward_month, forward_year, forward_end}
use Rattle.dates.proofs.day_after.Goals as goal

pub returns-then-not-can_roll : goal.returns-then-not-can_roll
returns-then-not-can_roll c = grind (arith, common_steps, not_rollable)

pub returns-then-d-last : goal.returns-then-d-last
returns-then-d-last c = grind (arith, common_steps, forward_day)

pub returns-then-d-lt12 : goal.returns-then-d-lt12
returns-then-d-lt12 c = grind (arith, common_steps, forward_month)

pub returns-then-d-lt-LAST_YEAR : goal.returns-then-d-lt-LAST_YEAR
returns-then-d-lt-LAST_YEAR c = grind (arith, common_steps, forward_year)

pub returns : goal.returns
returns c = grind (arith, common_steps, forward_end)
