-- `reader::fill` meets its contract: the bytes passed are stored, and none is DLE.
use Rattle.std.proofs.Common.{◌+◌, ◌-◌, ◌≤◌}
use Rattle.reader.specs.Moving.{Copied}
use Rattle.reader.proofs.fill.Given as goal

abbrev pub invariant-loop-at : goal.invariant-loop-at
invariant-loop-at l = (l.from ≤ l.initial.at) × (l.at ≤ l.most) × Copied l.initial.d l.d (l.len + (l.initial.at - l.from)) l.s l.initial.at l.at

abbrev pub decreases-loop-at : goal.decreases-loop-at
decreases-loop-at l = l.most - l.at
