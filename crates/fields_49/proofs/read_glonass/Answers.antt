-- `read_glonass` meets its contract: field by field, by what the readers ensure.
use Rattle.std.proofs.Common.{rules}
use Rattle.fields_49.specs.Fields.{fields_of_glonass}
use Rattle.fields_49.proofs.read_glonass.Goals as goal

pub returns : goal.returns
unfolding fields_of_glonass
returns c = search rules
