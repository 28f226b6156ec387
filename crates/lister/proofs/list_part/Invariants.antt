-- `list_part` meets its contract. The loop's invariant is `Turn`; each turn takes a byte or is the last.
use Rattle.std.proofs.Common.{◌≡◌, ◌-◌, length}
use Rattle.record.specs.View.{record_of}
use Rattle.lister.proofs.Turns.{Turn}
use Rattle.lister.proofs.list_part.Given as goal

abbrev pub invariant-loop-x : goal.invariant-loop-x
invariant-loop-x l =
    Turn (record_of l.initial.x.head l.initial.x.latest l.initial.d) l.s l.initial.buf (record_of l.x.head l.x.latest l.d) l.buf l.at l.to × (length l.d ≡ 1024)

abbrev pub decreases-loop-x : goal.decreases-loop-x
decreases-loop-x l = length l.s - l.at
