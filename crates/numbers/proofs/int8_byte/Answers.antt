-- `numbers::int8_byte` meets its contract: the two readings are the language's own.
use Rattle.std.proofs.Common.{sym, ap, ◌∙◌, w8, of_z}
use Rattle.std.proofs.lemmas.Int.{to_z-of_z}
use Rattle.numbers.proofs.SignedLaws.{unsigned_is}
use Rattle.numbers.proofs.int8_byte.Goals as goal

pub returns : goal.returns
returns c = c.cast_unsigned.ensures ∙ ap (of_z w8) (to_z-of_z w8 c.args.z c.ranges.z) ∙ sym (unsigned_is w8 c.args.z)
