-- `day_of` meets its contract: below a day, below two, or not.
use Rattle.std.proofs.Common.{◌∙◌, arith}
use Rattle.dates.proofs.UtcLaws.{falls_before, falls_same, falls_after}
use Rattle.dates.proofs.day_of.Goals as goal
use Rattle.dates.proofs.day_of.Goals.{Else-second, Then-second, Then-second-lt-DAY}

pub returns-then-second-lt-DAY : goal.returns-then-second-lt-DAY
returns-then-second-lt-DAY c = c.day_before.ensures ∙ falls_before _ _ (omega (arith, (goal.at.returns-then-second-lt-DAY c).Then-second-lt-DAY))

pub returns-then-second : goal.returns-then-second
returns-then-second c = falls_same _ _ (omega (arith, (goal.at.returns-then-second c).Then-second)) (omega (arith, (goal.at.returns-then-second c).Then-second))

pub returns-else-second : goal.returns-else-second
returns-else-second c = c.day_after.ensures ∙ falls_after _ _ (omega (arith, (goal.at.returns-else-second c).Else-second))
