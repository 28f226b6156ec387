-- `put_data` meets its contract. The loop's invariant: placing the data still to go is placing all of it.
use Rattle.std.proofs.lemmas.Grind.{common_steps}
use Rattle.std.proofs.Common.{◌≡◌, ap, ◌∙◌, List, [], ◌∷◌, ◌++◌, ℕ, suc, ◌+◌, ◌<◌, add-one, arith, length, drop, get_or, length-append, drop-cons}
use lib.Seq.{drop-length}
use Rattle.stuffing.specs.Stuffing.{stuffed}
use Rattle.stuffing.proofs.StuffingLaws.{stuffed_nil, stuffed_append}
use Rattle.octets.proofs.PlacingLaws.{placed_nil, placed_more, length_placed}
use Rattle.writer.proofs.put_data.Goals as goal

-- the byte at i, and those after it
first : (s : List ℕ) (i : ℕ) → i < length s → stuffed (drop i s) ≡ stuffed (get_or s i 0 ∷ []) ++ stuffed (drop (i + 1) s)
first s i h = rw add-one (ap stuffed (drop-cons s i 0 h) ∙ stuffed_append (get_or s i 0 ∷ []) (drop (suc i) s))

first_length : (s : List ℕ) (i : ℕ) → i < length s
    → length (stuffed (drop i s)) ≡ length (stuffed (get_or s i 0 ∷ [])) + length (stuffed (drop (i + 1) s))
first_length s i h = ap length (first s i h) ∙ length-append (stuffed (get_or s i 0 ∷ [])) (stuffed (drop (i + 1) s))

pub put_byte-to-requires : goal.put_byte-to-requires
put_byte-to-requires c = grind (arith, first_length)

pub loop-b-preserved : goal.loop-b-preserved
loop-b-preserved c = grind (arith, first, first_length, length_placed, placed_more)

pub returns : goal.returns
returns c = grind (arith, common_steps, placed_nil, drop-length, stuffed_nil)
