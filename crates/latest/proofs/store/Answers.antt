-- `latest::store` meets its contract: of a kept kind what `newer` gives, of the others what there was.
use native.Mathlib.Omega.{arith}
use Rattle.std.proofs.lemmas.List.{take_min}
use Rattle.kinds.proofs.OnlyLaws.{length_43, length_46, length_4a, length_4b, length_eb}
use Rattle.latest.proofs.Storing.{store_43, store_46, store_4a, store_4b, store_eb}
use Rattle.latest.proofs.store.Goals as goal

pub returns-in-67 : goal.returns-in-67
returns-in-67 c = grind (arith, take_min, length_43, store_43)

pub returns-in-70 : goal.returns-in-70
returns-in-70 c = grind (arith, take_min, length_46, store_46)

pub returns-in-74 : goal.returns-in-74
returns-in-74 c = grind (arith, take_min, length_4a, store_4a)

pub returns-in-75 : goal.returns-in-75
returns-in-75 c = grind (arith, take_min, length_4b, store_4b)

pub returns-in-235 : goal.returns-in-235
returns-in-235 c = grind (arith, take_min, length_eb, store_eb)
