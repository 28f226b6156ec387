-- What a step and a slice call on a possible record of mode 0 or 1 come to: one outcome each, which the contracts fix and which
-- meets them.
use mathlib.Core.Bool.{Bool, true, false, cond}
use mathlib.Core.List.{List, [], ◌∷◌}
use mathlib.Core.Path.{◌≡◌, refl, ap, ◌∙◌}
use Prim.Native.Nat.{ℕ, ◌≤◌}
use native.Mathlib.Omega.{arith}
use borrow.Author.Tests.{ltb-true, ltb-false, lt-ltb, le-ltb, lt-leb}
use lib.Dec.{ltb}
use Rattle.line.specs.Frame.{mode_of, class_of}
use Rattle.line.specs.Table.{Event}
use Rattle.line.specs.Table.Event.{nothing, message, refusal}
use Rattle.line.specs.Record.{Rec, Possible, Result, limit, state_of, stepped, event_of, or_stop, one_more, walk, StepPost, FeedPost}
use Rattle.line.specs.Calls.{step_took}
use Rattle.line.proofs.Mirror.{Fine, sound}

abbrev pub full : Rec → Result
full r = record { after = r; answer = refusal 3 0 0; taken = 0 }

abbrev pub outcome : Rec → List ℕ → Result
outcome r [] = walk r []
outcome r (b ∷ bs) = cond (ltb r.fed limit) (walk r (b ∷ bs)) (full r)

pub record Is (x : Result) (r : Rec) (a : Event) (n : ℕ) : Type 0 where
  pub after : r ≡ x.after
  pub answer : a ≡ x.answer
  pub taken : n ≡ x.taken

pub feed_outcome : (r : Rec) (bs : List ℕ) {r' : Rec} {a : Event} {n : ℕ} → r.mode ≤ 1 → Possible r → FeedPost r bs r' a n
    → Is (outcome r bs) r' a n
feed_outcome r [] g p q =
    let w = q.rest g p (λ z. absurd (omega arith)) in
    record { after = w.0; answer = w.1; taken = w.2 }
feed_outcome r (b ∷ bs) {r'} {a} {n} g p q = by (ltb r.fed limit) refl
  where
    by : (t : Bool) → ltb r.fed limit ≡ t → Is (cond t (walk r (b ∷ bs)) (full r)) r' a n
    by true e =
        let w = q.rest g p (λ z. ltb-true r.fed limit e) in
        record { after = w.0; answer = w.1; taken = w.2 }
    by false e =
        let w = q.three g p (omega arith) (ltb-false r.fed limit e) in
        record { after = w.0; answer = w.1; taken = w.2 }

-- a step, by whether there is room for a byte and by its event
abbrev single : Rec → ℕ → Bool → Event → Result
single r b t e =
    cond t
    (cond t
    (or_stop e (one_more (record { after = stepped r b; answer = nothing; taken = 0 }))
    (record { after = stepped r b; answer = e; taken = 1 }))
    (record { after = r; answer = nothing; taken = 0 }))
    (full r)

-- the table's refusals have a number above 3
pub fine_event : (r : Rec) (b : ℕ) → Possible r → Fine (mode_of r.mode) (event_of r b)
fine_event r b p =
    (sound (mode_of r.mode) (state_of r.place) b (class_of b) refl
    (record { mode = p.mode; identifier = p.identifier; size = p.size })).1

pub step_outcome : (r : Rec) (b : ℕ) {r' : Rec} {a : Event} → r.mode ≤ 1 → Possible r → StepPost r b r' a
    → Is (outcome r (b ∷ [])) r' a (step_took a)
step_outcome r b {r'} {a} g p q = by (ltb r.fed limit) refl (event_of r b) refl (fine_event r b p)
  where
    by : (t : Bool) → ltb r.fed limit ≡ t → (e : Event) → event_of r b ≡ e → Fine (mode_of r.mode) e
        → Is (single r b t e) r' a (step_took a)
    by false h e j f =
        let w = q.three g p tt (ltb-false r.fed limit h) in
        record { after = w.0; answer = w.1; taken = ap step_took w.1 }
    by true h nothing j f =
        let w = q.rest g p (λ z. ltb-true r.fed limit h) in
        record { after = w.0; answer = w.1 ∙ j; taken = ap step_took (w.1 ∙ j) }
    by true h (message i d n) j f =
        let w = q.rest g p (λ z. ltb-true r.fed limit h) in
        record { after = w.0; answer = w.1 ∙ j; taken = ap step_took (w.1 ∙ j) }
    by true h (refusal v i n) j f =
        let w = q.rest g p (λ z. ltb-true r.fed limit h) in
        record {
          after = w.0;
          answer = w.1 ∙ j;
          taken = ap step_took (w.1 ∙ j) ∙ ap (λ t. cond t 0 1) (lt-leb v 3 f);
        }

-- the outcome meets the contracts
pub feed_meets : (r : Rec) (bs : List ℕ) → r.mode ≤ 1 → Possible r
    → FeedPost r bs (outcome r bs).after (outcome r bs).answer (outcome r bs).taken
feed_meets r [] g p =
    record {
      one = λ z. absurd (omega arith);
      two = λ z n. absurd (n p);
      three = λ z y o l. absurd (omega arith);
      rest = λ z y o. (refl, refl, refl);
    }
feed_meets r (b ∷ bs) g p =
    record {
      one = λ z. absurd (omega arith);
      two = λ z n. absurd (n p);
      three = λ z y o l. rw (le-ltb r.fed limit l) (refl, refl, refl);
      rest = λ z y o. rw (lt-ltb r.fed limit (o (omega arith))) (refl, refl, refl);
    }

pub step_meets : (r : Rec) (b : ℕ) → r.mode ≤ 1 → Possible r
    → StepPost r b (outcome r (b ∷ [])).after (outcome r (b ∷ [])).answer
step_meets r b g p =
    record {
      one = λ z. absurd (omega arith);
      two = λ z n. absurd (n p);
      three = λ z y o l. rw (le-ltb r.fed limit l) (refl, refl);
      rest = λ z y o. by (ltb r.fed limit) (lt-ltb r.fed limit (o tt)) (event_of r b);
    }
  where
    by : (t : Bool) → t ≡ true → (e : Event) → ((single r b t e).after ≡ stepped r b) × ((single r b t e).answer ≡ e)
    by false h e = let z : ◌≡◌ {A = ℕ} 0 1 = cc in absurd (omega arith)
    by true h nothing = (refl, refl)
    by true h (message i d n) = (refl, refl)
    by true h (refusal v i n) = (refl, refl)
