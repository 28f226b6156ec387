-- `chosen_49` meets its contract: each arm knows the first byte.
use Rattle.std.proofs.lemmas.Grind.{common_steps}
use native.Mathlib.Omega.{arith}
use borrow.Author.Tests.{ne_eqb}
use Rattle.kinds.specs.Kinds.{chosen_49}
use Rattle.kinds.proofs.chosen_49.Goals as goal

pub returns-in-1 : goal.returns-in-1
unfolding chosen_49
returns-in-1 c = grind arith

pub returns-in-2 : goal.returns-in-2
unfolding chosen_49
returns-in-2 c = grind arith

pub returns-in_default : goal.returns-in_default
unfolding chosen_49
returns-in_default c = grind (arith, common_steps, ne_eqb)
