-- `from_fields` meets its contract: by the day on which the second falls.
use Rattle.std.proofs.lemmas.Grind.{common_steps}
use native.Mathlib.Omega.{arith}
use mir.ValLaws.{to_z-of_z}
use Rattle.refusals.proofs.NumberLaws.{positive}
use Rattle.dates.proofs.UtcLaws.{refused, given}
use Rattle.dates.proofs.from_fields.Goals as goal

pub returns-in_err-date : goal.returns-in_err-date
returns-in_err-date c = grind (arith, common_steps, refused, positive, to_z-of_z)

pub returns : goal.returns
returns c = grind (arith, common_steps, given, to_z-of_z)
