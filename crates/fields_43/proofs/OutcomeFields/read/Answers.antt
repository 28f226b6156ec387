-- `read` meets its contract: as `result_of` has it.
use mathlib.Core.Path.{ap, ◌∙◌}
use Rattle.fields_43.specs.Fields.{result_of, fields_of}
use Rattle.fields_43.proofs.OutcomeFields.read.Goals as goal

pub returns : goal.returns
unfolding fields_of
returns c = c.result_of.ensures ∙ ap result_of c.int8u_at.ensures
