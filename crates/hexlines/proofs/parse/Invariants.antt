-- `hexlines::parse` meets its contract. The loop's invariant: what the digits still to be read give, put after the bytes stored,
-- makes the whole.
use mathlib.Core.Path.{◌≡◌}
use Rattle.std.specs.Slice.Iter.{chunks_rest, chunks_size}
use Rattle.hexlines.proofs.ByteLaws.{Left}
use Rattle.hexlines.proofs.parse.Given as goal

abbrev pub invariant-loop-pair : goal.invariant-loop-pair
invariant-loop-pair l = (chunks_size l.pair-iterator ≡ 2) × Left l.initial.out l.s l.out l.n (chunks_rest l.pair-iterator)
