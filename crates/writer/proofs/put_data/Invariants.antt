-- `put_data` meets its contract. The loop's invariant: placing the data still to go is placing all of it.
use Rattle.std.proofs.Common.{◌≡◌, ◌+◌, length, drop}
use Rattle.stuffing.specs.Stuffing.{stuffed}
use Rattle.octets.specs.Placing.{placed}
use Rattle.writer.proofs.put_data.Given as goal

abbrev pub invariant-loop-b : goal.invariant-loop-b
invariant-loop-b l =
    (length l.buf ≡ length l.initial.buf)
    × (l.to + length (stuffed (drop l.b-index l.body)) ≡ l.at + length (stuffed l.body))
    × (placed l.buf l.to (stuffed (drop l.b-index l.body)) ≡ placed l.initial.buf l.at (stuffed l.body))
