-- `reader::run` meets its contract: the invariant says what is left to do.
use Rattle.std.proofs.Common.{◌≡◌, ◌+◌, ◌-◌, ◌≤◌, length}
use Rattle.reader.specs.Moving.{Pends, Sound, Fits}
use Rattle.reader.proofs.Feeding.{Left}
use Rattle.reader.proofs.run.Given as goal

abbrev pub invariant-loop-at : goal.invariant-loop-at
invariant-loop-at l =
    (l.at ≤ l.n) × (length l.d ≡ 1024) × Pends l.m l.d × Fits l.m l.at l.n × Sound l.mode l.m l.d × (l.m.outside + l.m.pending ≡ l.initial.m.outside + l.initial.m.pending + l.at)
    × Left l.mode l.initial.m l.initial.d l.s l.n l.d l.m l.at

abbrev pub decreases-loop-at : goal.decreases-loop-at
decreases-loop-at l = l.n - l.at
