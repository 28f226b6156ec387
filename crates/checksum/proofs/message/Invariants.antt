-- `checksum::message` meets its contract. The loop's invariant: the data still to go, stuffed, takes what the register leaves by eight
-- shifts to the result.
use Rattle.std.proofs.Common.{◌≡◌, drop}
use Rattle.stuffing.specs.Stuffing.{stuffed}
use Rattle.checksum.specs.Checksum.{shifted_by, after_bytes, checksum}
use Rattle.checksum.proofs.message.Given as goal

abbrev pub invariant-loop-b : goal.invariant-loop-b
invariant-loop-b l = after_bytes (shifted_by 8 l.r) (stuffed (drop l.b-index l.body)) ≡ checksum l.id l.body
