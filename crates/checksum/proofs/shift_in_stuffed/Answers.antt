-- `checksum::shift_in_stuffed` meets its contract: a byte of data that is 10h, and one that is not.
use Rattle.stuffing.proofs.StuffingLaws.{stuffed_dle, stuffed_other}
use Rattle.checksum.specs.Checksum.{after_byte, after_bytes}
use Rattle.checksum.proofs.shift_in_stuffed.Goals as goal
use native.Mathlib.Omega.{arith}
use Rattle.std.proofs.lemmas.Grind.{common_steps}

pub returns-then-b-eq-DLE : goal.returns-then-b-eq-DLE
unfolding after_byte after_bytes
returns-then-b-eq-DLE c d = grind (arith, common_steps, stuffed_dle)

pub returns : goal.returns
unfolding after_byte after_bytes
returns c d = rw (stuffed_other c.args.b d c.if-b-eq-DLE.false, c.shift_in-once.ensures)
