-- `gather` meets its contract. The loop's invariant: the first i bytes are there.
use Rattle.std.proofs.Common.{◌≡◌, ◌+◌, ◌*◌}
use Rattle.octets.specs.Bytes.{byte}
use Rattle.octets.specs.Placing.{placed}
use Rattle.encoding.specs.Entries.{firsts}
use Rattle.columns.proofs.gather.Given as goal

abbrev pub invariant-loop-i : goal.invariant-loop-i
invariant-loop-i l = l.column ≡ placed l.initial.column 0 (firsts (λ k. byte l.src (l.from + l.step * k)) l.i)
