-- Laws of bytes listed one after the other: what a part of a listing leaves of them, and that they may be cut anywhere.
use mathlib.Core.Bool.{Bool, true, false, cond}
use mathlib.Core.List.{List, [], ◌∷◌, ◌++◌, append_assoc}
use mathlib.Core.Path.{◌≡◌, refl, sym, ap, ◌∙◌}
use Prim.Native.Nat.{ℕ, ◌+◌, ◌≤◌, ◌<◌}
use native.Mathlib.Omega.{arith}
use borrow.Author.Tests.{ltb-true}
use lib.Dec.{ltb}
use lib.ListN.{length, drop}
use Rattle.line.specs.Record.{Rec, limit, event_of, stepped}
use Rattle.listing.specs.Text.{total_of, longest_event}
use Rattle.lister.specs.Listing.{line_of, text, segment}
use Rattle.lister.proofs.SegmentLaws.{segment_by}
use Rattle.streaming.specs.Through.{Through, until, through}

-- one byte, by whether it can be counted; x is what the others come to
abbrev led : Rec → Through → Bool → Through
led r x t = cond t x (until 3 r)

-- a segment, and then what it leaves
pub through_segment : (l : List ℕ) (room : ℕ) (r : Rec)
    → through r l ≡ through (segment room r l).after (drop (segment room r l).taken l)
through_segment =
    segment_by (λ room r l p. through r l ≡ through p.after (drop p.taken l)) (λ room r. refl) (λ room r l q. refl) (λ room r b bs k. refl)
    (λ room r b bs p k h. ap (led r (through (stepped r b) bs)) k ∙ h)

-- a segment that takes nothing, though there is room, stands at the end or at a byte that can't be counted
pub segment_last : (l : List ℕ) (room : ℕ) (r : Rec) → ltb room longest_event ≡ false → (segment room r l).taken ≡ 0
    → until (segment room r l).refusal (segment room r l).after ≡ through r l
segment_last =
    segment_by (λ room r l p. ltb room longest_event ≡ false → p.taken ≡ 0 → until p.refusal p.after ≡ through r l) (λ room r q h. refl)
    (λ room r l t q h. absurd (let g : ◌≡◌ {A = ℕ} 0 1 = cc in omega arith))
    (λ room r b bs k q h. ap (led r (through (stepped r b) bs)) (sym k)) (λ room r b bs p k i q h. absurd (omega arith))

-- what holds at the end, at a byte that can't be counted, and of one byte more in front, holds of all bytes
module _ (P : Rec → List ℕ → Through → Type 0)
    (none : (r : Rec) → P r [] (until 0 r))
    (limited : (r : Rec) (b : ℕ) (bs : List ℕ) → ltb r.fed limit ≡ false → P r (b ∷ bs) (until 3 r))
    (more : (r : Rec) (b : ℕ) (bs : List ℕ) (x : Through) → ltb r.fed limit ≡ true → P (stepped r b) bs x → P r (b ∷ bs) x) where
  through_by : (l : List ℕ) (r : Rec) → P r l (through r l)
  through_by [] r = none r
  through_by (b ∷ bs) r = by (ltb r.fed limit) refl (through_by bs (stepped r b))
    where
      by : (t : Bool) → ltb r.fed limit ≡ t → P (stepped r b) bs (through (stepped r b) bs)
          → P r (b ∷ bs) (led r (through (stepped r b) bs) t)
      by true k h = more r b bs (through (stepped r b) bs) k h
      by false k h = limited r b bs k

-- more bytes, where the first were all counted
pub through_more : (a b : List ℕ) (r : Rec) → (through r a).refusal ≡ 0 → through r (a ++ b) ≡ through (through r a).after b
through_more a b =
    through_by (λ r l x. x.refusal ≡ 0 → through r (l ++ b) ≡ through x.after b) (λ r h. refl) (λ r c cs k h. absurd (omega arith))
    (λ r c cs x k i h. ap (led r (through (stepped r c) (cs ++ b))) k ∙ i h) a

-- bytes that were all counted
pub through_fed : (l : List ℕ) (r : Rec) → (through r l).refusal ≡ 0 → (through r l).after.fed ≡ r.fed + length l
through_fed =
    through_by (λ r l x. x.refusal ≡ 0 → x.after.fed ≡ r.fed + length l) (λ r h. omega arith) (λ r b bs k h. absurd (omega arith))
    (λ r b bs x k i h. omega (arith, i h))

pub through_limit : (l : List ℕ) (r : Rec) → r.fed ≤ limit → (through r l).refusal ≡ 0 → (through r l).after.fed ≤ limit
through_limit =
    through_by (λ r l x. r.fed ≤ limit → x.refusal ≡ 0 → x.after.fed ≤ limit) (λ r f h. f) (λ r b bs k f h. absurd (omega arith))
    (λ r b bs x k i f h. i (omega (arith, ltb-true r.fed limit k)) h)

pub through_below : (l : List ℕ) (r : Rec) → 0 < length l → (through r l).refusal ≡ 0 → r.fed < limit
through_below =
    through_by (λ r l x. 0 < length l → x.refusal ≡ 0 → r.fed < limit) (λ r n h. absurd (omega arith)) (λ r b bs k n h. absurd (omega arith))
    (λ r b bs x k i n h. ltb-true r.fed limit k)

-- the listing of the bytes ends with the total of the record after them
pub total_last : (l : List ℕ) (r : Rec) → (lines : List ℕ) × (text r l ≡ lines ++ total_of (through r l).after)
total_last =
    through_by (λ r l x. (lines : List ℕ) × (text r l ≡ lines ++ total_of x.after)) (λ r. ([], refl))
    (λ r b bs k. ([], ap (λ (c : Bool). cond c (line_of r.fed (event_of r b) ++ text (stepped r b) bs) (total_of r)) k))
    (λ r b bs x k h.
    let s = line_of r.fed (event_of r b) in (
      s ++ h.0,
      ap (λ (c : Bool). cond c (s ++ text (stepped r b) bs) (total_of r)) k
          ∙ ap (λ (z : List ℕ). s ++ z) h.1
          ∙ sym (append_assoc s h.0 (total_of x.after)),
    ))
