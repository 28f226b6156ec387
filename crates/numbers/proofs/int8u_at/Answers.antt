-- `int8u_at` meets its contract: one byte is the number that it stands for.
use mathlib.Core.Path.{sym, ◌∙◌}
use Rattle.numbers.proofs.NumberLaws.{number_one}
use Rattle.numbers.proofs.int8u_at.Goals as goal

pub returns : goal.returns
returns c = c.byte_at.ensures ∙ sym (number_one _ _)
