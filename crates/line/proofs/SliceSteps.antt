-- A slice call that took n bytes, on any record, leaves the record and the last answer of n single steps.
use mathlib.Core.Bool.{Bool, true, false, cond}
use mathlib.Core.List.{List, [], ◌∷◌}
use mathlib.Core.Option.{Option, none, some}
use mathlib.Core.Path.{◌≡◌, refl, sym, ap, ◌∙◌, subst}
use Prim.Native.Nat.{ℕ, zero, suc, ◌+◌, ◌≤◌, ◌<◌}
use native.Mathlib.Omega.{arith}
use borrow.Author.Tests.{ltb-true, ltb-false, leb-true, leb-false, eqb-true, eqb-false}
use lib.Dec.{eqb, ltb, leb}
use lib.ListN.{length, take}
use lib.Seq.{length-take-le}
use Rattle.kinds.specs.Kinds.{content}
use Rattle.line.specs.Frame.{Mode, Class, mode_of, class_of}
use Rattle.line.specs.Frame.Mode.{plain, summed}
use Rattle.line.specs.Frame.Class.{dle, etx, sum, other}
use Rattle.line.specs.Table.{State, Event, capacity, pending}
use Rattle.line.specs.Table.State.{W, WD, F, FD, C0, C1, E, ED}
use Rattle.line.specs.Table.Event.{nothing, message, refusal}
use Rattle.line.specs.Record.{Rec, Place, Possible, Result, Known, Fit, limit, state_of, by_place, stepped, event_of, or_stop, one_more, walk, StepPost, FeedPost}
use Rattle.line.specs.Record.Place.{at, unknown}
use Rattle.line.specs.Record.Kept.{k_43, k_46, k_4a, k_4b, k_eb}
use Rattle.line.specs.Steps.{Steps}
use Rattle.line.specs.Steps.Steps.{last, more}
use Rattle.line.proofs.Mirror.{keeps_possible}

-- question 2 is decidable clause by clause: what is not impossible holds
abbrev Stable : Type 0 → Type 0
Stable A = ((A → ⊥) → ⊥) → A

unit_stable : Stable (Unit {0})
unit_stable n = tt

eq_stable : (a b : ℕ) → Stable (a ≡ b)
eq_stable a b n = by (eqb a b) refl
  where
    by : (t : Bool) → eqb a b ≡ t → a ≡ b
    by true q = eqb-true a b q
    by false q = absurd (n (eqb-false a b q))

le_stable : (a b : ℕ) → Stable (a ≤ b)
le_stable a b n = by (leb a b) refl
  where
    by : (t : Bool) → leb a b ≡ t → a ≤ b
    by true q = leb-true a b q
    by false q = absurd (n (λ h. omega (arith, leb-false a b q)))

mode_stable : (m : Mode) → Stable (m ≡ summed)
mode_stable plain n = absurd (n (λ e. let z : ◌≡◌ {A = ℕ} 0 1 = cc in omega arith))
mode_stable summed n = refl

class_stable : (k : Class) → Stable (k ≡ other)
class_stable dle n = absurd (n (λ e. let z : ◌≡◌ {A = ℕ} 0 1 = cc in omega arith))
class_stable etx n = absurd (n (λ e. let z : ◌≡◌ {A = ℕ} 0 1 = cc in omega arith))
class_stable sum n = absurd (n (λ e. let z : ◌≡◌ {A = ℕ} 0 1 = cc in omega arith))
class_stable other n = refl

known_stable : (p : Place) → Stable (Known p)
known_stable (at s) n = tt
known_stable (unknown k) n = n (λ z. z)

place_stable : (s : State) {A : Type 0} {P Q : ℕ → List ℕ → Type 0} → Stable A → ((id : ℕ) (d : List ℕ) → Stable (P id d))
    → ((id : ℕ) (d : List ℕ) → Stable (Q id d)) → Stable (by_place s A P Q)
place_stable W a p q = a
place_stable WD a p q = a
place_stable (F id d) a p q = p id d
place_stable (FD id d) a p q = p id d
place_stable (C0 id d) a p q = q id d
place_stable (C1 id d c1) a p q = q id d
place_stable (E id d c1 c2) a p q = q id d
place_stable (ED id d c1 c2) a p q = q id d

fit_stable : (id : ℕ) (o : Option (List ℕ)) → Stable (Fit id o)
fit_stable id none = unit_stable
fit_stable id (some d) = eq_stable (content id d) 0

pub possible_stable : (r : Rec) → ((Possible r → ⊥) → ⊥) → Possible r
possible_stable r n =
    record {
      place = known_stable r.place (λ f. n (λ p. f p.place));
      mode =
          place_stable s unit_stable (λ id d. unit_stable) (λ id d. mode_stable (mode_of r.mode)) (λ f. n (λ p. f p.mode));
      identifier =
          place_stable s unit_stable (λ id d. class_stable (class_of id)) (λ id d. class_stable (class_of id))
          (λ f. n (λ p. f p.identifier));
      size =
          place_stable s unit_stable (λ id d. le_stable (length d) capacity) (λ id d. le_stable (length d) capacity)
          (λ f. n (λ p. f p.size));
      pending = eq_stable r.pending (pending s) (λ f. n (λ p. f p.pending));
      fed = eq_stable r.fed (r.accepted + r.refused + r.outside + r.pending) (λ f. n (λ p. f p.fed));
      latest_43 = fit_stable 0x43 (r.latest k_43) (λ f. n (λ p. f p.latest_43));
      latest_46 = fit_stable 0x46 (r.latest k_46) (λ f. n (λ p. f p.latest_46));
      latest_4a = fit_stable 0x4A (r.latest k_4a) (λ f. n (λ p. f p.latest_4a));
      latest_4b = fit_stable 0x4B (r.latest k_4b) (λ f. n (λ p. f p.latest_4b));
      latest_eb = fit_stable 0xEB (r.latest k_eb) (λ f. n (λ p. f p.latest_eb));
    }
  where
    s : State
    s = state_of r.place

-- one turn of a walk, by whether there is room for b and by its event; x is what the other bytes come to
abbrev turned : Rec → ℕ → Result → Bool → Event → Result
turned r b x t e =
    cond t (or_stop e (one_more x) (record { after = stepped r b; answer = e; taken = 1 }))
    (record { after = r; answer = nothing; taken = 0 })

pub walk_fits : (bs : List ℕ) (r : Rec) → (walk r bs).taken ≤ length bs
walk_fits [] r = omega arith
walk_fits (b ∷ bs) r = by (ltb r.fed limit) (event_of r b) (walk_fits bs (stepped r b))
  where
    x : Result
    x = walk (stepped r b) bs

    by : (t : Bool) (e : Event) → x.taken ≤ length bs
        → (turned r b x t e).taken ≤ suc (length bs)
    by false e h = omega arith
    by true nothing h = omega arith
    by true (message i d n) h = omega arith
    by true (refusal v i n) h = omega arith

-- a walk that takes nothing leaves the record
pub record Stays (r : Rec) (x : Result) : Type 0 where
  pub after : x.after ≡ r
  pub answer : x.answer ≡ nothing

stays : (bs : List ℕ) (r : Rec) → (walk r bs).taken ≡ 0 → Stays r (walk r bs)
stays [] r h = record { after = refl; answer = refl }
stays (b ∷ bs) r h = by (ltb r.fed limit) (event_of r b) h
  where
    x : Result
    x = walk (stepped r b) bs

    by : (t : Bool) (e : Event) → (turned r b x t e).taken ≡ 0 → Stays r (turned r b x t e)
    by false e h = record { after = refl; answer = refl }
    by true nothing h = absurd (omega arith)
    by true (message i d n) h = absurd (omega arith)
    by true (refusal v i n) h = absurd (omega arith)

steps_some : {r r' : Rec} {bs : List ℕ} {a : Event} → Steps r bs r' a → 0 < length bs
steps_some (last p) = omega arith
steps_some (more p s) = omega arith

-- the first of some steps, and the others if any
data First (r : Rec) (b : ℕ) (bs : List ℕ) (r'' : Rec) (a : Event) : Type 0 where
  only : bs ≡ [] → StepPost r b r'' a → First r b bs r'' a
  then : {r' : Rec} {e : Event} → StepPost r b r' e → Steps r' bs r'' a → First r b bs r'' a

first : {r r'' : Rec} {b : ℕ} {bs : List ℕ} {a : Event} → Steps r (b ∷ bs) r'' a → First r b bs r'' a
first (last p) = only refl p
first (more p s) = then p s

step_post : (r : Rec) (b : ℕ) → r.mode ≤ 1 → Possible r → r.fed < limit → StepPost r b (stepped r b) (event_of r b)
step_post r b g p l =
    record {
      one = λ z. absurd (omega arith);
      two = λ z n. absurd (n p);
      three = λ z y o f. absurd (omega arith);
      rest = λ z y o. (refl, refl);
    }

walk_steps : (bs : List ℕ) (r : Rec) → r.mode ≤ 1 → Possible r → 0 < (walk r bs).taken
    → Steps r (take (walk r bs).taken bs) (walk r bs).after (walk r bs).answer
walk_steps [] r g p h = absurd (omega arith)
walk_steps (b ∷ bs) r g p h =
    by (ltb r.fed limit) refl (event_of r b) refl h (walk_steps bs (stepped r b) g (keeps_possible r b p))
  where
    x : Result
    x = walk (stepped r b) bs

    here : ltb r.fed limit ≡ true → StepPost r b (stepped r b) (event_of r b)
    here q = step_post r b g p (ltb-true r.fed limit q)

    quiet : ltb r.fed limit ≡ true → event_of r b ≡ nothing → (n : ℕ) → x.taken ≡ n
        → (0 < x.taken → Steps (stepped r b) (take x.taken bs) x.after x.answer)
        → Steps r (take (suc x.taken) (b ∷ bs)) x.after x.answer
    quiet q e zero k ih =
        let w = stays bs (stepped r b) k in
        rw (k, w.after, w.answer) (last (subst (λ a. StepPost r b (stepped r b) a) e (here q)))
    quiet q e (suc n) k ih = more (here q) (ih (omega arith))

    by : (t : Bool) → ltb r.fed limit ≡ t → (e : Event) → event_of r b ≡ e → 0 < (turned r b x t e).taken
        → (0 < x.taken → Steps (stepped r b) (take x.taken bs) x.after x.answer)
        → Steps r (take (turned r b x t e).taken (b ∷ bs)) (turned r b x t e).after (turned r b x t e).answer
    by false q e j h ih = absurd (omega arith)
    by true q nothing j h ih = quiet q j x.taken refl ih
    by true q (message i d n) j h ih = last (subst (λ a. StepPost r b (stepped r b) a) j (here q))
    by true q (refusal v i n) j h ih = last (subst (λ a. StepPost r b (stepped r b) a) j (here q))

-- the record and the answer that steps leave, and a walk
pub record Same (x : Result) (r : Rec) (a : Event) : Type 0 where
  pub after : r ≡ x.after
  pub answer : a ≡ x.answer

steps_walk : (bs : List ℕ) (r : Rec) → r.mode ≤ 1 → Possible r → 0 < (walk r bs).taken → {r'' : Rec} {a : Event}
    → Steps r (take (walk r bs).taken bs) r'' a → Same (walk r bs) r'' a
steps_walk [] r g p h s = absurd (omega arith)
steps_walk (b ∷ bs) r g p h {r''} {a} s =
    by (ltb r.fed limit) refl (event_of r b) refl h s
    (λ k u. steps_walk bs (stepped r b) g (keeps_possible r b p) k u)
  where
    x : Result
    x = walk (stepped r b) bs

    single : ltb r.fed limit ≡ true → (e : Event) → event_of r b ≡ e → First r b [] r'' a
        → Same (record { after = stepped r b; answer = e; taken = 1 }) r'' a
    single q e j (only z f) =
        let w = f.rest g p (λ o. ltb-true r.fed limit q) in
        record { after = w.0; answer = w.1 ∙ j }
    single q e j (then f u) = absurd (omega (arith, steps_some u))

    quiet : ltb r.fed limit ≡ true → event_of r b ≡ nothing → (n : ℕ) → x.taken ≡ n → First r b (take n bs) r'' a
        → (0 < x.taken → Steps (stepped r b) (take x.taken bs) r'' a → Same x r'' a) → Same x r'' a
    quiet q e zero k f ih =
        let w = stays bs (stepped r b) k in
        let y = single q nothing e f in
        record { after = y.after ∙ sym w.after; answer = y.answer ∙ sym w.answer }
    quiet q e (suc n) k (only z f) ih =
        let l : length (take (suc n) bs) ≡ suc n = length-take-le (suc n) bs (omega (arith, walk_fits bs (stepped r b))) in
        absurd (omega (arith, ap length z))
    quiet q e (suc n) k (then f u) ih =
        let w = f.rest g p (λ o. ltb-true r.fed limit q) in
        ih (omega arith) (subst (λ v. Steps v (take x.taken bs) r'' a) w.0 (rw k u))

    by : (t : Bool) → ltb r.fed limit ≡ t → (e : Event) → event_of r b ≡ e → 0 < (turned r b x t e).taken
        → Steps r (take (turned r b x t e).taken (b ∷ bs)) r'' a
        → (0 < x.taken → Steps (stepped r b) (take x.taken bs) r'' a → Same x r'' a) → Same (turned r b x t e) r'' a
    by false q e j h s ih = absurd (omega arith)
    by true q nothing j h s ih =
        let y = quiet q j x.taken refl (first s) ih in
        record { after = y.after; answer = y.answer }
    by true q (message i d n) j h s ih = single q (message i d n) j (first s)
    by true q (refusal v i n) j h s ih = single q (refusal v i n) j (first s)

-- a slice call that took a byte passed questions 1 to 3
pub record Passed (r : Rec) (bs : List ℕ) (r' : Rec) (a : Event) (n : ℕ) : Type 0 where
  pub mode : r.mode ≤ 1
  pub possible : Possible r
  pub after : r' ≡ (walk r bs).after
  pub answer : a ≡ (walk r bs).answer
  pub taken : n ≡ (walk r bs).taken

passed : (r : Rec) (bs : List ℕ) {r' : Rec} {a : Event} {n : ℕ} → FeedPost r bs r' a n → 0 < n → Passed r bs r' a n
passed r bs {r'} {a} {n} q h =
    let w = q.rest g p room in
    record { mode = g; possible = p; after = w.0; answer = w.1; taken = w.2 }
  where
    mode : (t : Bool) → leb r.mode 1 ≡ t → r.mode ≤ 1
    mode true e = leb-true r.mode 1 e
    mode false e = absurd (omega (arith, (q.one (leb-false r.mode 1 e)).2))

    g : r.mode ≤ 1
    g = mode (leb r.mode 1) refl

    p : Possible r
    p = possible_stable r (λ f. omega (arith, (q.two g f).2))

    by : (t : Bool) → ltb r.fed limit ≡ t → 0 < length bs → r.fed < limit
    by true e o = ltb-true r.fed limit e
    by false e o = absurd (omega (arith, (q.three g p o (ltb-false r.fed limit e)).2))

    room : 0 < length bs → r.fed < limit
    room o = by (ltb r.fed limit) refl o

-- n single steps on the bytes taken leave what the slice call left
pub slice_steps : (r : Rec) (bs : List ℕ) {r' : Rec} {a : Event} {n : ℕ} → FeedPost r bs r' a n → 0 < n → Steps r (take n bs) r' a
slice_steps r bs q h =
    let w = passed r bs q h in
    rw (w.after, w.answer, w.taken) (walk_steps bs r w.mode w.possible (omega (arith, w.taken)))

-- and nothing else
pub slice_steps_only : (r : Rec) (bs : List ℕ) {r' r'' : Rec} {a a'' : Event} {n : ℕ} → FeedPost r bs r' a n → 0 < n
    → Steps r (take n bs) r'' a'' → (r'' ≡ r') × (a'' ≡ a)
slice_steps_only r bs {r'' = r''} {a'' = a''} q h s =
    let w = passed r bs q h in
    let v = steps_walk bs r w.mode w.possible (omega (arith, w.taken))
    (subst (λ k. Steps r (take k bs) r'' a'') w.taken s) in
    (v.after ∙ sym w.after, v.answer ∙ sym w.answer)
