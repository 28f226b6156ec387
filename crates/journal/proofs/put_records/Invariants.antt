-- `put_records` meets its contract. The loop's invariant: what is left is not refused, it fits, and with its records placed the buffer is
-- what it is to be.
use Rattle.std.proofs.Common.{◌≡◌, ◌+◌, ◌≤◌, length}
use Rattle.octets.specs.Placing.{placed}
use Rattle.batch.specs.Entries.{contents_of}
use Rattle.journal.specs.Calls.{records_in}
use Rattle.journal.proofs.WritingLaws.{Entire}
use Rattle.journal.proofs.put_records.Given as goal

abbrev pub invariant-loop-message : goal.invariant-loop-message
invariant-loop-message l =
    (length l.buf ≡ length l.initial.buf) × Entire (contents_of l.rest)
    × (l.to + length (records_in (contents_of l.rest)) ≤ length l.buf)
    × (placed l.buf l.to (records_in (contents_of l.rest)) ≡ placed l.initial.buf 0 (records_in (contents_of l.fn.list)))

abbrev pub decreases-loop-message : goal.decreases-loop-message
decreases-loop-message l = length l.rest
