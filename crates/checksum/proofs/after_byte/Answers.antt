-- `checksum::after_byte` meets its contract: the byte comes in at the top, and leaves.
use Rattle.std.proofs.Common.{arith}
use lib.Bits.{xor_zero_r}
use Rattle.checksum.specs.Checksum.{after_byte}
use Rattle.checksum.proofs.after_byte.Goals as goal
use Rattle.std.proofs.lemmas.Grind.{common_steps}

pub returns : goal.returns
unfolding after_byte
returns c = grind (arith, common_steps, xor_zero_r)
