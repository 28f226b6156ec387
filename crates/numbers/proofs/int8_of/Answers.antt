-- `numbers::int8_of` meets its contract: the two readings are the language's own.
use Rattle.std.proofs.Common.{w8, arith}
use Rattle.std.proofs.lemmas.Int.{ints}
use Rattle.numbers.proofs.SignedLaws.{signed_is}
use Rattle.numbers.proofs.int8_of.Goals as goal

pub returns : goal.returns
returns c = omega (arith, ints, signed_is w8 c.args.b)
