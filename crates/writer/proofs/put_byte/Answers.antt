-- `put_byte` meets its contract: one store, or two of which the second stands right after the first.
use Rattle.std.proofs.lemmas.Grind.{common_steps}
use Rattle.std.proofs.Common.{[], ◌∷◌, arith, length-set}
use Rattle.stuffing.proofs.StuffingLaws.{length_stuffed, stuffed_nil, stuffed_dle, stuffed_other}
use Rattle.octets.proofs.PlacingLaws.{placed_one, placed_cons}
use Rattle.writer.proofs.put_byte.Goals as goal

pub bounds-buf-at : goal.bounds-buf-at
bounds-buf-at c = omega (arith, length_stuffed (c.args.b ∷ []))

pub bounds-buf-at-then-b-eq-DLE : goal.bounds-buf-at-then-b-eq-DLE
bounds-buf-at-then-b-eq-DLE c = grind (arith, common_steps, stuffed_dle, length-set)

pub returns-then-b-eq-DLE : goal.returns-then-b-eq-DLE
returns-then-b-eq-DLE c = grind (arith, common_steps, stuffed_dle, length-set, stuffed_nil, placed_one, placed_cons)

pub returns-else-b-eq-DLE : goal.returns-else-b-eq-DLE
returns-else-b-eq-DLE c = grind (arith, common_steps, stuffed_other, stuffed_nil, placed_one)
