-- `reader::store_four` meets its contract: a byte a turn.
use Rattle.std.proofs.Common.{List, ℕ, ◌≡◌, ◌+◌, ◌-◌, length}
use Rattle.reader.specs.Moving.{NoDle, Copied}
use Rattle.reader.proofs.store_four.Given as goal

abbrev pub invariant-loop-i : goal.invariant-loop-i
invariant-loop-i l =
    (length l.d ≡ 1024) × ((a : List ℕ) (len from : ℕ) → l.to ≡ len + (l.at - from) → NoDle l.s l.at (l.at + 4)
    → Copied a l.initial.d len l.s from l.at → Copied a l.d len l.s from (l.at + l.i))
