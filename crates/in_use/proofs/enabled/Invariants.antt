-- `enabled` meets its contract. The loop's invariant: the word's bits are the places that the triples passed enable.
use Prim.Native.Nat.{◌^◌, ◌<◌}
use Rattle.in_use.proofs.WordLaws.{Marks}
use Rattle.in_use.proofs.enabled.Given as goal

abbrev pub invariant-loop-triple : goal.invariant-loop-triple
invariant-loop-triple l = (l.word < 2 ^ 64) × Marks l.body l.word l.triple-index
