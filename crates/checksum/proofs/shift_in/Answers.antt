-- `checksum::shift_in` meets its contract: eight shifts by one entry.
use Rattle.std.proofs.Common.{◌/◌, ◌<◌, arith}
use Rattle.checksum.proofs.Linear.{next_in}
use Rattle.checksum.proofs.shift_in.Goals as goal
use Rattle.checksum.proofs.shift_in.Goals.{Start}
use Rattle.std.proofs.lemmas.Grind.{common_steps}

-- the entry that is asked for is there
there : (c : Start) → c.args.reg / 256 < 256
there c = omega (arith, c.ranges.reg.fits)

pub returns : goal.returns
returns c = grind (arith, common_steps, next_in)
