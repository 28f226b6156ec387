-- The loop's invariant: the part stands at the buffer's start, as often as there were turns.
use Rattle.answering.proofs.PartsLaws.{Stands}
use Rattle.answering.proofs.lay_out.Given as goal

abbrev pub invariant-loop : goal.invariant-loop
invariant-loop l = Stands l.fn.buf l.part l.counter l.at l.buf
