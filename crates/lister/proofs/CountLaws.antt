-- Laws of counting: what one slice call of the reader comes to, in front of the rest.
use mathlib.Core.Bool.{Bool, true, false, cond}
use mathlib.Core.List.{List, [], ◌∷◌}
use mathlib.Core.Path.{◌≡◌, refl, sym, ap, ◌∙◌, subst, subst⁻¹}
use Prim.Native.Nat.{ℕ, ◌+◌, ◌≤◌, ◌<◌}
use native.Mathlib.Nat.{add-zero, zero-add}
use native.Mathlib.Omega.{arith}
use borrow.Author.Tests.{le-ltb, ltb-true, ltb-false}
use lib.Dec.{ltb}
use lib.ListN.{length, drop, length-drop}
use Rattle.line.specs.Table.{Event}
use Rattle.line.specs.Table.Event.{nothing, message, refusal}
use Rattle.line.specs.Record.{Rec, Possible, limit, event_of, stepped, walk}
use Rattle.record.specs.declared.Reader.{Reader}
use Rattle.record.specs.declared.Fed.{Fed}
use Rattle.record.specs.View.{Parts, view, parts_of, shown, told}
use Rattle.record.specs.Posts.{FeedPost}
use Rattle.lister.specs.Counting.{occurs, event_count, occurs_shown}
use Rattle.lister.specs.Posts.{CountPost}
use Rattle.lister.proofs.SegmentLaws.{walk_by, walk_mode, walk_possible}
use Rattle.reader.proofs.Taking.{passed}
use Rattle.lister.proofs.FeedLaws.{taken_fits}

count_walk : (l : List ℕ) (r : Rec) → event_count r l ≡ occurs (walk r l).answer + event_count (walk r l).after (drop (walk r l).taken l)
count_walk =
    walk_by (λ r l x. event_count r l ≡ occurs x.answer + event_count x.after (drop x.taken l)) (λ r. refl)
    (λ r b bs k. sym (zero-add (event_count r (b ∷ bs))))
    (λ r b bs x k q h. (λ i. cond (k i) (occurs (q i) + event_count (stepped r b) bs) 0) ∙ zero-add (event_count (stepped r b) bs) ∙ h)
    (λ r b bs e k q. λ i. cond (k i) (occurs (q i) + event_count (stepped r b) bs) 0)

count_none : (l : List ℕ) (r : Rec) → (walk r l).taken ≡ 0 → event_count r l ≡ 0
count_none =
    walk_by (λ r l x. x.taken ≡ 0 → event_count r l ≡ 0) (λ r h. refl)
    (λ r b bs k h. λ i. cond (k i) (occurs (event_of r b) + event_count (stepped r b) bs) 0) (λ r b bs x k q i h. absurd (omega arith))
    (λ r b bs e k q h. absurd (omega arith))

count_shown : (e : Event) → occurs_shown (shown e).event ≡ occurs e
count_shown nothing = refl
count_shown (message id d n) = refl
count_shown (refusal v id n) = refl

-- a full count takes nothing
none_taken : (l : List ℕ) (r : Rec) → limit ≤ r.fed → (walk r l).taken ≡ 0
none_taken [] r h = refl
none_taken (b ∷ bs) r h = rw (le-ltb r.fed limit h)

-- the last call takes nothing: all is counted, or it is refused
pub events_last : (r : Reader) (s : List ℕ) (x : Fed) → FeedPost r s x → x.taken ≡ 0 → CountPost r s 0
events_last r s x q h =
    record {
      one = λ m. refl;
      two = λ m f. refl;
      three = λ m p o f. absurd o;
      rest = λ m p o. sym (count_none s (view r) (by m p (ltb r.head.fed limit) refl));
    }
  where
    by : r.head.mode ≤ 1 → Possible (view r) → (t : Bool) → ltb r.head.fed limit ≡ t → (walk (view r) s).taken ≡ 0
    by m p true e = sym (q.asked.rest m p (λ o. ltb-true r.head.fed limit e)).2 ∙ h
    by m p false e = none_taken s (view r) (ltb-false r.head.fed limit e)

-- a call that takes something, and then what is right from where it stopped
pub events_more : (r : Reader) (s : List ℕ) (x : Fed) → FeedPost r s x → 0 < x.taken → (n : ℕ) → CountPost x.reader (drop x.taken s) n
    → CountPost r s (occurs_shown (told x.answer.event) + n)
events_more r s x q h n o =
    record {
      one = λ m. absurd (omega (arith, (q.asked.one m).2));
      two = λ m f. absurd (omega (arith, (q.asked.two m f).2));
      three = λ m p z f. absurd z;
      rest = λ m p z.
          let u : n ≡ event_count (view x.reader) (drop x.taken s) = o.rest (rw mode_kept m) (kept p) (λ y. absurd y) in
          (λ i. event i + u i)
          ∙ (λ i. occurs (walk (view r) s).answer + event_count (w.0 i) (drop (w.2 i) s))
          ∙ sym (count_walk s (view r));
    }
  where
    w : (view x.reader ≡ (walk (view r) s).after)
        × (parts_of x.answer ≡ shown (walk (view r) s).answer)
        × (x.taken ≡ (walk (view r) s).taken)
    w = passed r s x q h

    mode_kept : x.reader.head.mode ≡ r.head.mode
    mode_kept = ap (λ (y : Rec). y.mode) w.0 ∙ walk_mode s (view r)

    kept : Possible (view r) → Possible (view x.reader)
    kept p = subst⁻¹ Possible w.0 (walk_possible s (view r) p)

    event : occurs_shown (told x.answer.event) ≡ occurs (walk (view r) s).answer
    event = ap (λ (y : Parts). occurs_shown y.event) w.1 ∙ count_shown (walk (view r) s).answer

-- the reader r₀ took all of s but for l, is r now, and n events are counted
pub record Tally (r₀ : Reader) (s : List ℕ) (r : Reader) (l : List ℕ) (n : ℕ) : Type 0 where
  pub few : n + length l ≤ length s
  pub whole : length r.bytes ≡ 1024
  pub right : (m : ℕ) → CountPost r l m → CountPost r₀ s (n + m)

pub tally_none : (r : Reader) (s : List ℕ) → length r.bytes ≡ 1024 → Tally r s r s 0
tally_none r s w = record { few = omega arith; whole = w; right = λ m o. rw zero-add o }

module _ {r₀ : Reader} {s : List ℕ} {r : Reader} {l : List ℕ} {n : ℕ} (w : Tally r₀ s r l n) (x : Fed) (q : FeedPost r l x) where
  pub tally_within : x.taken ≤ length l
  tally_within = taken_fits r l x q

  -- something was taken, and its event counted
  pub tally_more : (j : ℕ) → 0 < x.taken → length x.reader.bytes ≡ 1024 → j ≡ occurs_shown (told x.answer.event) → j ≤ 1
      → Tally r₀ s x.reader (drop x.taken l) (n + j)
  tally_more j h k ej hj =
      record {
        few = omega (arith, length-drop x.taken l, w.few, tally_within);
        whole = k;
        right = λ m o.
            let u : CountPost r₀ s (n + (occurs_shown (told x.answer.event) + m)) =
            w.right (occurs_shown (told x.answer.event) + m) (events_more r l x q h m o) in
            let z : n + (occurs_shown (told x.answer.event) + m) ≡ n + j + m = omega arith in
            subst (λ (y : ℕ). CountPost r₀ s y) z u;
      }

  -- nothing was taken
  pub tally_last : x.taken ≡ 0 → CountPost r₀ s n
  tally_last z = subst (λ (y : ℕ). CountPost r₀ s y) (add-zero n) (w.right 0 (events_last r l x q z))
