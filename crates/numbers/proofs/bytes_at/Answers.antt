-- `numbers::bytes_at` meets its contract: the bytes are there exactly where both lookups find them.
use Rattle.std.proofs.Common.{arith, length, take}
use Rattle.std.proofs.lemmas.Slice.{between_to_end}
use Rattle.std.proofs.lemmas.Grind.{common_steps}
use Rattle.numbers.proofs.NumberLaws.{number_in, number_out, number_zeros}
use Rattle.numbers.proofs.bytes_at.Goals as goal

pub returns : goal.returns
returns g c = grind (arith, common_steps, length, take, between_to_end, number_in)

pub returns-2 : goal.returns-2
returns-2 g c = grind (arith, common_steps, length, number_zeros, number_out)
