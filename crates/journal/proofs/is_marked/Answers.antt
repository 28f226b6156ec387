-- `is_marked` meets its contract.
use mathlib.Core.Path.{◌∙◌}
use Rattle.journal.proofs.ReadingLaws.{marks}
use Rattle.journal.proofs.is_marked.Goals as goal

pub returns : goal.returns
returns c = c.starts_with.ensures.value ∙ marks c.args.bytes.now
