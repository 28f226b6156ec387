-- `find_kind` meets its contract: the code's table is that of the definitions.
use mathlib.Core.Path.{◌∙◌}
use Rattle.kinds.specs.Kinds.{table}
use Rattle.kinds.proofs.RowLaws.{first_row}
use Rattle.kinds.proofs.find_kind.Goals as goal

pub returns : goal.returns
unfolding table
returns c = c.find_in.ensures ∙ first_row table c.args.id
