-- `fill` meets its contract: head, data, checksum and end are placed one right after the other.
use Rattle.std.proofs.lemmas.Grind.{common_steps}
use Rattle.std.proofs.Common.{append_assoc, zero-add, arith, length-append}
use Rattle.octets.proofs.PlacingLaws.{placed_more}
use Rattle.writer.proofs.FrameLength.{parts_length}
use Rattle.writer.proofs.fill.Goals as goal

pub returns : goal.returns
returns c = grind (arith, common_steps, parts_length, length-append, append_assoc, zero-add, placed_more)
