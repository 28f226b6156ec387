-- `checksum::all_entries` meets its contract: the test of all its numbers is computed, and gives the rule.
use mathlib.Core.Path.{refl}
use Rattle.checksum.specs.Checksum.{shifted, shifted_by, after_byte}
use Rattle.checksum.proofs.EntryLaws.{entries}
use Rattle.checksum.proofs.all_entries.Goals as goal

pub returns : goal.returns
unfolding shifted shifted_by after_byte
returns c = entries _ refl refl
