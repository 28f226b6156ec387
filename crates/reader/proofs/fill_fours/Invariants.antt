-- `reader::fill_fours` meets its contract: four bytes a turn, none of them DLE.
use Rattle.std.proofs.Common.{◌-◌, ◌≤◌, length}
use Rattle.reader.specs.Moving.{Copied}
use Rattle.reader.proofs.fill_fours.Given as goal

abbrev pub invariant-loop-to : goal.invariant-loop-to
invariant-loop-to l = (l.at ≤ length l.s) × Copied l.initial.d l.d l.len l.s l.from l.at

abbrev pub decreases-loop-to : goal.decreases-loop-to
decreases-loop-to l = length l.s - l.at
