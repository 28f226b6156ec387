-- `count` meets its contract. The loop's invariant is `Tally`; each turn takes a byte or is the last.
use Rattle.std.proofs.Common.{length}
use Rattle.record.specs.View.{record_of}
use Rattle.lister.proofs.CountLaws.{Tally}
use Rattle.lister.proofs.count.Given as goal

abbrev pub invariant-loop-x : goal.invariant-loop-x
invariant-loop-x l = Tally (record_of l.initial.x.head l.initial.x.latest l.initial.d) l.s (record_of l.x.head l.x.latest l.d) l.rest l.events

abbrev pub decreases-loop-x : goal.decreases-loop-x
decreases-loop-x l = length l.rest
