-- `put_event` meets its contract: offset, identifier, numbers and newline are placed one right after the other.
use mathlib.Core.Path.{◌≡◌, ap, ◌∙◌}
use mathlib.Core.List.{List, [], ◌∷◌}
use Prim.Native.Nat.{ℕ, ◌+◌, ◌≤◌}
use native.Mathlib.Omega.{arith}
use borrow.Author.Rules.{rules}
use lib.ListN.{length}
use Rattle.octets.specs.Placing.{placed}
use Rattle.listing.specs.Text.{space, newline, decimal, hexadecimal, decimals, longest_event}
use Rattle.listing.proofs.LineLaws.{event_length, event_longest, event_parts}
use Rattle.listing.proofs.put_event.Goals as goal
use Rattle.listing.proofs.put_event.Goals.{Start}

-- the line is within the longest
room : (g : Start)
    → let a = g.args in length (decimal a.offset) + 3 + length (decimals (a.number ∷ a.closed ∷ [])) + 1 ≤ longest_event
room g =
    let a = g.args in
    let k = event_longest a.offset a.id a.number a.closed (search rules) (search rules) (search rules) in
    omega (arith, event_length a.offset a.id a.number a.closed)

pub put_decimal-past_offset-requires : goal.put_decimal-past_offset-requires
put_decimal-past_offset-requires c = omega (arith, room (goal.at.put_decimal-past_offset-requires c).Start, c.requires)

pub overflow_add-past_offset : goal.overflow_add-past_offset
overflow_add-past_offset c =
    omega (arith, c.put_decimal-past_offset.ensures.0, room (goal.at.overflow_add-past_offset c).Start)

pub put_decimals-past_numbers-requires : goal.put_decimals-past_numbers-requires
put_decimals-past_numbers-requires c =
    omega (arith, c.put_decimal-past_offset.ensures.0, room (goal.at.put_decimals-past_numbers-requires c).Start, c.put.auto.buf, c.put_decimal-past_offset.auto.buf, c.requires, ap (λ (n : ℕ). length (decimals (n ∷ c.args.closed ∷ []))) c.from.ensures)

pub overflow_add-result : goal.overflow_add-result
overflow_add-result c =
    omega (arith, c.put_decimals-past_numbers.ensures.0, c.put_decimal-past_offset.ensures.0, room (goal.at.overflow_add-result c).Start, ap (λ (n : ℕ). length (decimals (n ∷ c.args.closed ∷ []))) c.from.ensures)

pub returns : goal.returns
returns c =
    let x = c.args in
    let n = c.put_decimal-past_offset.result in
    let k = c.put_decimals-past_numbers.result in
    let ns : List ℕ = x.number ∷ x.closed ∷ [] in
    let l = event_length x.offset x.id x.number x.closed in
    let en : n ≡ length (decimal x.offset) = omega (arith, c.put_decimal-past_offset.ensures.0) in
    let same : decimals (c.from.result ∷ x.closed ∷ []) ≡ decimals ns = ap (λ (m : ℕ). decimals (m ∷ x.closed ∷ [])) c.from.ensures in
    let ek : k ≡ n + 3 + length (decimals ns) = c.put_decimals-past_numbers.ensures.0 ∙ ap (λ (l : List ℕ). n + 3 + length l) same in
    let name : space ∷ c.hex_digit.result ∷ c.hex_digit-2.result ∷ [] ≡ space ∷ hexadecimal x.id =
    λ i. space ∷ c.hex_digit.ensures i ∷ c.hex_digit-2.ensures i ∷ [] in (
      omega arith,
      c.put-2.ensures.1
          ∙ ap (λ (z : List ℕ). placed z k (newline ∷ [])) c.put_decimals-past_numbers.ensures.1
          ∙ (λ i. placed (placed (c.put.ensures.1 i) (n + 3) (same i)) k (newline ∷ []))
          ∙ (λ i. placed (placed (placed (c.put_decimal-past_offset.ensures.1 i) n (name i)) (n + 3) (decimals ns)) k (newline ∷ []))
          ∙ event_parts x.offset x.id x.number x.closed x.line.now n k
          (omega (arith, room (goal.at.returns c).Start, c.requires)) en ek,
      omega (arith, room (goal.at.returns c).Start),
    )
