-- `checksum::message` meets its contract: the data that is left, stuffed, takes the register to the checksum.
use Rattle.std.proofs.Common.{arith}
use lib.Bits.{xor_zero_r}
use lib.Seq.{drop-length}
use Rattle.stuffing.proofs.StuffingLaws.{stuffed_nil}
use Rattle.checksum.specs.Checksum.{after_bytes}
use Rattle.checksum.proofs.ChecksumLaws.{begun}
use Rattle.checksum.proofs.message.Goals as goal
use Rattle.std.proofs.lemmas.Grind.{common_steps}

pub loop-b-init : goal.loop-b-init
loop-b-init c = grind (arith, common_steps, begun)

pub returns : goal.returns
unfolding after_bytes
returns c = grind (arith, common_steps, xor_zero_r, drop-length, stuffed_nil)
