-- `measure` meets its contract. The loop's invariant: the messages measure what is left of them, after the bytes so far.
use Rattle.std.proofs.Common.{◌≡◌, ◌+◌, ◌*◌, ◌≤◌}
use Rattle.batch.specs.Walks.{left, bytes_left}
use Rattle.journal.proofs.WritingLaws.{measured_from}
use Rattle.journal.specs.Calls.{measured}
use Rattle.journal.proofs.measure.Given as goal

abbrev pub invariant-loop-message : goal.invariant-loop-message
invariant-loop-message l =
    (goal.iterator-loop-message).can_next l.message-iterator
    × (l.length + 2 * bytes_left l.message-iterator ≤ 2 * bytes_left l.fn.messages)
    × (measured (left l.fn.messages) ≡ measured_from l.length (left l.message-iterator))
