-- `read` meets its contract: field by field, by what the readers ensure.
use Rattle.std.proofs.Common.{rules}
use Rattle.fields_4b.specs.Fields.{fields_of}
use Rattle.fields_4b.proofs.ScalesFields.read.Goals as goal

pub returns : goal.returns
unfolding fields_of
returns c = search rules
