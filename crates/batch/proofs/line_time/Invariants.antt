-- `line_time` meets its contract. The loop's invariant: the time of the list is that of what is left, after the bytes so far.
use Rattle.std.proofs.Common.{◌≡◌, ◌+◌, ◌*◌, ◌≤◌}
use Rattle.line.specs.Frame.{mode_of}
use Rattle.batch.specs.Entries.{limit}
use Rattle.batch.specs.Times.{time_for}
use Rattle.batch.specs.Walks.{left, bytes_left}
use Rattle.batch.proofs.TimeLaws.{time_from}
use Rattle.batch.proofs.line_time.Given as goal

abbrev pub invariant-loop-message : goal.invariant-loop-message
invariant-loop-message l =
    (goal.iterator-loop-message).can_next l.message-iterator
    × (l.bytes + 3 * bytes_left l.message-iterator ≤ 3 * limit)
    × (time_for l.mode l.list ≡ time_from (mode_of l.mode) l.bytes (left l.message-iterator))
