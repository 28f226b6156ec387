-- `numbers::int16_of` meets its contract: the two readings are the language's own.
use Rattle.std.proofs.Common.{w16, arith}
use Rattle.std.proofs.lemmas.Int.{ints}
use Rattle.numbers.proofs.SignedLaws.{signed_is}
use Rattle.numbers.proofs.int16_of.Goals as goal

pub returns : goal.returns
returns c = omega (arith, ints, signed_is w16 c.args.v)
