-- `data_of` meets its contract: GPS has the numbers 1 to 32, GLONASS 1 to 24, and together they fill the array.
use mathlib.Core.Path.{refl, ◌∙◌}
use lib.ListN.{replicate}
use Rattle.in_use.proofs.DataLaws.{data_placed}
use Rattle.in_use.proofs.data_of.Goals as goal

pub returns : goal.returns
returns c =
    c.put_system-2.ensures ∙ data_placed _ (replicate 168 0) _ refl c.put_system.ensures
