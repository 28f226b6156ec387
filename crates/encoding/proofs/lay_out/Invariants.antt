-- The loop's invariant: the bytes of the first i entries stand at the buffer's start, each of the entries' width.
use mathlib.Core.Path.{◌≡◌}
use Rattle.octets.specs.Placing.{placed}
use Rattle.encoding.specs.Entries.{Long, entries_data}
use Rattle.encoding.proofs.lay_out.Given as goal

abbrev pub invariant-loop-i : goal.invariant-loop-i
invariant-loop-i g l = Long g.E.Entry.series l.entries l.i × (l.buf ≡ placed l.fn.buf 0 (entries_data g.E.Entry.series l.entries l.i))
