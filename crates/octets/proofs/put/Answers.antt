-- `octets::put` meets its contract: past the test the bytes are within the buffer, and replace as many from the place on.
use Rattle.std.proofs.lemmas.Grind.{common_steps}
use Rattle.std.proofs.Common.{arith, le-leb, leb-true, leb-false}
use borrow.Author.Tests.{lt-leb}
use Rattle.octets.proofs.PlacingLaws.{placed_part, placed_out}
use Rattle.octets.proofs.put.Goals as goal

pub returns-then-not-within : goal.returns-then-not-within
returns-then-not-within c = grind (arith, common_steps, leb-false, lt-leb, placed_out)

pub returns : goal.returns
returns c = grind (arith, common_steps, leb-true, le-leb, placed_part)
