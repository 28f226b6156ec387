-- `put_total` meets its contract: word, numbers and newline are placed one right after the other.
use mathlib.Core.Path.{◌≡◌, ap, ◌∙◌}
use mathlib.Core.List.{List, [], ◌∷◌}
use Prim.Native.Nat.{ℕ, ◌+◌, ◌≤◌}
use native.Mathlib.Omega.{arith}
use borrow.Author.Rules.{rules}
use lib.ListN.{length}
use Rattle.octets.specs.Placing.{placed}
use Rattle.listing.specs.Text.{newline, decimals, longest_total}
use Rattle.listing.proofs.LineLaws.{total_length, total_longest, total_parts}
use Rattle.listing.proofs.put_total.Goals as goal
use Rattle.listing.proofs.put_total.Goals.{Start}

-- the line is within the longest
room : (g : Start)
    → let a = g.args in 5 + length (decimals (a.t.fed ∷ a.t.accepted ∷ a.t.refused ∷ a.t.outside ∷ a.t.pending ∷ [])) + 1 ≤ longest_total
room g =
    let a = g.args in
    let k = total_longest a.t.fed a.t.accepted a.t.refused a.t.outside a.t.pending (search rules) (search rules) (search rules) (search rules) (search rules) in
    omega (arith, total_length a.t.fed a.t.accepted a.t.refused a.t.outside a.t.pending)

pub put_decimals-past_numbers-requires : goal.put_decimals-past_numbers-requires
put_decimals-past_numbers-requires c =
    omega (arith, room (goal.at.put_decimals-past_numbers-requires c).Start, c.put.auto.buf, c.requires)

pub overflow_add-result : goal.overflow_add-result
overflow_add-result c =
    omega (arith, c.put_decimals-past_numbers.ensures.0, room (goal.at.overflow_add-result c).Start)

pub returns : goal.returns
returns c =
    let x = c.args in
    let k = c.put_decimals-past_numbers.result in
    let ns : List ℕ = x.t.fed ∷ x.t.accepted ∷ x.t.refused ∷ x.t.outside ∷ x.t.pending ∷ [] in
    let l = total_length x.t.fed x.t.accepted x.t.refused x.t.outside x.t.pending in
    let word : c.put.new.buf ≡ placed x.line.now 0 (116 ∷ 111 ∷ 116 ∷ 97 ∷ 108 ∷ []) = search rules in
    let ek : k ≡ 5 + length (decimals ns) = omega (arith, c.put_decimals-past_numbers.ensures.0) in (
      omega arith,
      c.put-2.ensures.1
          ∙ ap (λ (z : List ℕ). placed z k (newline ∷ [])) c.put_decimals-past_numbers.ensures.1
          ∙ ap (λ (z : List ℕ). placed (placed z 5 (decimals ns)) k (newline ∷ [])) word
          ∙ total_parts x.t.fed x.t.accepted x.t.refused x.t.outside x.t.pending x.line.now k
          (omega (arith, room (goal.at.returns c).Start, c.requires)) ek,
      omega (arith, room (goal.at.returns c).Start),
    )
