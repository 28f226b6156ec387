-- `encode` meets its contract: the words and their widths are those of the rows.
use Rattle.std.proofs.lemmas.Grind.{common_steps}
use native.Mathlib.Omega.{arith}
use Rattle.rows.specs.Layout.{joined, laid, total, short, packs, packed}
use Rattle.fields_43.specs.Fields.{data_of}
use Rattle.fields_43.proofs.OutcomeFields.encode.Goals as goal

pub returns : goal.returns
unfolding data_of joined laid total short packs packed
returns c = grind (arith, common_steps)
