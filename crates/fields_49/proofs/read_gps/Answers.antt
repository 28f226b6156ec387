-- `read_gps` meets its contract: field by field, by what the readers ensure.
use Rattle.std.proofs.Common.{rules}
use Rattle.fields_49.specs.Fields.{fields_of_gps}
use Rattle.fields_49.proofs.read_gps.Goals as goal

pub returns : goal.returns
unfolding fields_of_gps
returns c = search rules
