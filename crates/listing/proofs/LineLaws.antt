-- Laws of the lines: their length, that none is longer than the longest, that their parts, placed one right after the other, are the
-- line, and what a line comes to that was put straight into the buffer, or composed apart and delivered.
use mathlib.Core.Path.{◌≡◌, refl, sym, ap, ◌∙◌}
use mathlib.Core.Bool.{Bool, true, false}
use mathlib.Core.List.{List, [], ◌∷◌, ◌++◌, append_assoc}
use Prim.Native.Nat.{ℕ, ◌+◌, ◌^◌, ◌≤◌, ◌<◌}
use native.Mathlib.Nat.{zero-add}
use native.Mathlib.Omega.{arith}
use borrow.Author.Tests.{ltb-true, ltb-false}
use lib.Dec.{ltb}
use lib.ListN.{length, take, length-append}
use lib.Seq.{length-take-le}
use Rattle.octets.specs.Placing.{placed}
use Rattle.octets.proofs.PlacingLaws.{placed_more, length_placed}
use Rattle.octets.specs.Delivery.{Written}
use Rattle.octets.specs.Delivery.{accepted, written_of, filled_of, Counts}
use Rattle.octets.proofs.DeliveryLaws.{placed_back, short, writes}
use Rattle.listing.specs.Text.{space, newline, decimal, hexadecimal, decimals, event_line, total_line, count_digits, longest_event, longest_total}
use Rattle.listing.proofs.DecimalLaws.{decimal_length, decimal_short, decimals_nil, decimals_cons}

-- more, right after what stands at the start
pub placed_after : (b p s : List ℕ) (at : ℕ) → at ≡ length p → length p + length s ≤ length b → placed (placed b 0 p) at s ≡ placed b 0 (p ++ s)
placed_after b p s at e h =
    ap (λ (n : ℕ). placed (placed b 0 p) n s) (e ∙ sym (zero-add (length p))) ∙ placed_more b 0 p s (rw zero-add h)

-- a line that was placed, read back
pub read_back : (b d t : List ℕ) (n : ℕ) → n ≡ length t → d ≡ placed b 0 t → length t ≤ length b → take n d ≡ t
read_back b d t n e f h = (λ i. take (e i) (f i)) ∙ placed_back b t h

-- a text that was placed, and one that was composed apart and delivered
pub line_placed : (t b b' : List ℕ) (n : ℕ) → n ≡ length t → b' ≡ placed b 0 t → n ≤ length b → (accepted n ≡ written_of 0 t b) × (b' ≡ filled_of 0 t b)
line_placed t b b' n e f h =
    let w = writes 0 t b refl (omega arith) in
    (ap accepted e ∙ sym w.0, f ∙ sym w.1)

pub line_delivered : (t z d b : List ℕ) (n : ℕ) → n ≡ length t → d ≡ placed z 0 t → n ≤ length z
    → {w : Written} {b' : List ℕ} → (w ≡ written_of 0 (take n d) b) × (b' ≡ filled_of 0 (take n d) b) → (w ≡ written_of 0 t b) × (b' ≡ filled_of 0 t b)
line_delivered t z d b n e f h q =
    let r = read_back z d t n e f (omega arith) in
    (q.0 ∙ ap (λ (x : List ℕ). written_of 0 x b) r, q.1 ∙ ap (λ (x : List ℕ). filled_of 0 x b) r)

-- what is written lies within the buffer
pub written_counts : (t b : List ℕ) (w : Written) (b' : List ℕ) → w ≡ written_of 0 t b → b' ≡ filled_of 0 t b → Counts w.length b'
written_counts t b w b' e f = let h = by (ltb (length b) (length t)) refl in (h, sym (length-take-le w.length b' h))
  where
    by : (c : Bool) → ltb (length b) (length t) ≡ c → w.length ≤ length b'
    by true k = omega (arith, ap (λ (v : Written). v.length) (e ∙ (short 0 t b refl (ltb-true (length b) (length t) k)).0))
    by false k =
        let h = ltb-false (length b) (length t) k in
        let p = writes 0 t b refl h in
        omega (arith, h, ap (λ (v : Written). v.length) (e ∙ p.0), ap length (f ∙ p.1), length_placed b 0 t)

decimals_more : (n : ℕ) (ns : List ℕ) → n < 10 ^ count_digits → length (decimals (n ∷ ns)) ≤ 1 + count_digits + length (decimals ns)
decimals_more n ns h =
    omega (arith, ap length (decimals_cons n ns), length-append (space ∷ decimal n) (decimals ns), decimal_short n h)

-- the parts of a line that has a first part, some numbers, and the newline
line_parts : (b p : List ℕ) (ns : List ℕ) (n k : ℕ) → length p + length (decimals ns) + 1 ≤ length b → n ≡ length p → k ≡ n + length (decimals ns)
    → placed (placed (placed b 0 p) n (decimals ns)) k (newline ∷ []) ≡ placed b 0 (p ++ (decimals ns ++ (newline ∷ [])))
line_parts b p ns n k h en ek =
    let l = length-append p (decimals ns) in
    ap (λ (z : List ℕ). placed z k (newline ∷ [])) (placed_after b p (decimals ns) n en (omega arith))
    ∙ placed_after b (p ++ decimals ns) (newline ∷ []) k (omega arith) (omega arith)
    ∙ ap (placed b 0) (append_assoc p (decimals ns) (newline ∷ []))

module _ (offset id number closed : ℕ) where
  abbrev two : List ℕ
  two = number ∷ closed ∷ []

  pub event_length : length (event_line offset id number closed) ≡ length (decimal offset) + 3 + length (decimals two) + 1
  unfolding event_line
  event_length = simp length-append (omega arith)

  -- of a byte as the number
  pub event_longest : offset < 10 ^ count_digits → number < 256 → closed < 10 ^ count_digits → length (event_line offset id number closed) ≤ longest_event
  event_longest ho hn hc =
      omega (
        arith,
        event_length,
        decimal_short offset ho,
        ap length (decimals_cons number (closed ∷ [])),
        length-append (space ∷ decimal number) (decimals (closed ∷ [])),
        decimal_length 2 number (omega arith),
        decimals_more closed [] hc,
        ap length decimals_nil,
      )

  pub event_parts : (b : List ℕ) (n k : ℕ) → length (event_line offset id number closed) ≤ length b → n ≡ length (decimal offset)
      → k ≡ n + 3 + length (decimals two)
      → placed (placed (placed (placed b 0 (decimal offset)) n (space ∷ hexadecimal id)) (n + 3) (decimals two)) k (newline ∷ [])
      ≡ placed b 0 (event_line offset id number closed)
  unfolding event_line
  event_parts b n k h en ek =
      let l = event_length in
      let q = length-append (decimal offset) (space ∷ hexadecimal id) in
      ap (λ (z : List ℕ). placed (placed z (n + 3) (decimals two)) k (newline ∷ []))
      (placed_after b (decimal offset) (space ∷ hexadecimal id) n en (omega arith))
      ∙ line_parts b (decimal offset ++ (space ∷ hexadecimal id)) two (n + 3) k (omega arith) (omega arith) ek
      ∙ ap (placed b 0) (append_assoc (decimal offset) (space ∷ hexadecimal id) (decimals two ++ (newline ∷ [])))

module _ (fed accepted refused outside pending : ℕ) where
  abbrev five : List ℕ
  five = fed ∷ accepted ∷ refused ∷ outside ∷ pending ∷ []

  pub total_length : length (total_line fed accepted refused outside pending) ≡ 5 + length (decimals five) + 1
  unfolding total_line
  total_length = simp length-append (omega arith)

  pub total_longest : fed < 10 ^ count_digits → accepted < 10 ^ count_digits → refused < 10 ^ count_digits → outside < 10 ^ count_digits → pending < 10 ^ count_digits
      → length (total_line fed accepted refused outside pending) ≤ longest_total
  total_longest hf ha hr ho hp =
      omega (
        arith,
        total_length,
        decimals_more fed (accepted ∷ refused ∷ outside ∷ pending ∷ []) hf,
        decimals_more accepted (refused ∷ outside ∷ pending ∷ []) ha,
        decimals_more refused (outside ∷ pending ∷ []) hr,
        decimals_more outside (pending ∷ []) ho,
        decimals_more pending [] hp,
        ap length decimals_nil,
      )

  pub total_parts : (b : List ℕ) (k : ℕ) → length (total_line fed accepted refused outside pending) ≤ length b → k ≡ 5 + length (decimals five)
      → placed (placed (placed b 0 (116 ∷ 111 ∷ 116 ∷ 97 ∷ 108 ∷ [])) 5 (decimals five)) k (newline ∷ [])
      ≡ placed b 0 (total_line fed accepted refused outside pending)
  unfolding total_line
  total_parts b k h ek =
      let l = total_length in
      line_parts b (116 ∷ 111 ∷ 116 ∷ 97 ∷ 108 ∷ []) five 5 k (omega arith) refl ek
