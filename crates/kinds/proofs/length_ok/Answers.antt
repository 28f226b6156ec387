-- `length_ok` meets its contract: by what its callees ensure and the test of the identifier.
use Rattle.std.proofs.lemmas.Grind.{common_steps}
use native.Mathlib.Omega.{arith}
use mathlib.Core.Bool.{and-true}
use borrow.Author.Tests.{eq-eqb, ne_eqb}
use Rattle.kinds.specs.Kinds.{length_ok}
use Rattle.kinds.proofs.length_ok.Goals as goal

pub returns-then-k-eq73 : goal.returns-then-k-eq73
unfolding length_ok
returns-then-k-eq73 c = grind (arith, common_steps, eq-eqb)

pub returns : goal.returns
unfolding length_ok
returns c = rw (c.allows_length-allowed.ensures, ne_eqb _ _ c.if-k-eq73.false, and-true)
