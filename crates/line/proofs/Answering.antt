-- What a right call says of the events of the bytes that it took: all are nothing but the last, which is its answer.
use mathlib.Core.Bool.{Bool, true, false, cond}
use mathlib.Core.List.{List, [], ◌∷◌, ◌++◌}
use mathlib.Core.Option.{Option, none}
use mathlib.Core.Path.{◌≡◌, refl, sym, ap, ◌∙◌, subst, subst⁻¹}
use Prim.Native.Nat.{ℕ, zero, suc, ◌+◌, ◌≤◌, ◌<◌}
use native.Mathlib.Omega.{arith}
use borrow.Author.Tests.{ltb-false}
use lib.Dec.{ltb}
use lib.ListN.{length, take, get_or, length-append, get_or-append}
use lib.Seq.{get_or-append-add}
use Rattle.line.specs.Frame.{Mode, class_of}
use Rattle.line.specs.Table.{State, Event, next, after, events, total, accepts}
use Rattle.line.specs.Table.State.{W}
use Rattle.line.specs.Table.Event.{nothing, message, refusal}
use Rattle.line.specs.Record.{Kept, limit, update, PlaceOk}
use Rattle.line.specs.Calls.{History, taken, offered, last_event, last, due, if_nothing, Right, Every, added, frame_length, Message, line, frames}
use Rattle.line.specs.Calls.History.{start, call}
use Rattle.line.proofs.Reading.{usable, events_append, length_events}
use Rattle.line.proofs.Resync.{after_append, resync}
use Rattle.line.proofs.Mirror.{Fine, sound, stood, stood_append, total_append}
use Rattle.line.proofs.Latest.{stored}
use Rattle.line.proofs.Walking.{event_after, last_event_append}

pub data EndsWith : List Event → Event → Type 0 where
  silent : EndsWith [] nothing
  one : {e : Event} → EndsWith (e ∷ []) e
  more : {es : List Event} {e : Event} → EndsWith es e → EndsWith (nothing ∷ es) e

-- or the counter is full, and no byte was taken
pub data Answers : List Event → Event → Type 0 where
  table : {es : List Event} {e : Event} → EndsWith es e → Answers es e
  full : Answers [] (refusal 3 0 0)

due_ends : (m : Mode) (bs before : List ℕ) → EndsWith (events m (after m W before) (due m before bs)) (event_after m before (due m before bs))
due_ends m [] before = silent
due_ends m (b ∷ bs) before =
    by (ltb (length before) limit) (last_event m (before ++ (b ∷ []))) (sym (last_event_append m before b [])) (due_ends m bs (before ++ (b ∷ [])))
  where
    t : List ℕ
    t = due m (before ++ (b ∷ [])) bs

    s : State
    s = after m W before

    by : (c : Bool) (e : Event) → (next m s b).event ≡ e
        → EndsWith (events m (after m W (before ++ (b ∷ []))) t) (event_after m (before ++ (b ∷ [])) t)
        → EndsWith (events m s (cond c (b ∷ if_nothing e t) [])) (event_after m before (cond c (b ∷ if_nothing e t) []))
    by false e q ih = silent
    by true nothing q ih =
        subst⁻¹ (λ e. EndsWith (e ∷ events m (next m s b).to t) (last e (events m (next m s b).to t))) q
        (more (subst (λ z. EndsWith (events m z t) (last nothing (events m z t))) (after_append m W before (b ∷ [])) ih))
    by true (message i d n) q ih = one
    by true (refusal v i n) q ih = one

pub right_answers : (m : Mode) (before bs : List ℕ) (n : ℕ) (a : Event) → length before ≤ limit → Right m before bs n a
    → Answers (events m (after m W before) (take n bs)) a
right_answers m before bs zero a h r = none_taken bs r
  where
    none_taken : (bs : List ℕ) → Right m before bs 0 a → Answers [] a
    none_taken [] r = subst⁻¹ (Answers []) (r.empty refl) (table silent)
    none_taken (b ∷ bs) r = by (ltb (length before) limit) refl
      where
        by : (c : Bool) → ltb (length before) limit ≡ c → Answers [] a
        by true q =
            let z : 0 ≡ suc (length (if_nothing (last_event m (before ++ (b ∷ []))) (due m (before ++ (b ∷ [])) bs))) =
            r.counts ∙ ap (λ c. length (cond c (b ∷ if_nothing (last_event m (before ++ (b ∷ []))) (due m (before ++ (b ∷ [])) bs)) [])) q in
            absurd (omega arith)
        by false q =
            subst⁻¹ (Answers []) (r.full (omega (arith, ltb-false (length before) limit q)) (omega arith)).0 full
right_answers m before bs (suc n) a h r =
    subst⁻¹ (Answers (events m (after m W before) t)) (r.answers (omega arith) ∙ last_event_after t long)
    (table (subst⁻¹ (λ u. EndsWith (events m (after m W before) u) (event_after m before u)) r.takes (due_ends m bs before)))
  where
    t : List ℕ
    t = take (suc n) bs

    long : 0 < length t
    long = omega (arith, r.counts, ap length r.takes)

    last_event_after : (u : List ℕ) → 0 < length u → last_event m (before ++ u) ≡ event_after m before u
    last_event_after [] g = absurd (omega arith)
    last_event_after (x ∷ u) g = last_event_append m before x u

ends_total : (f : Event → ℕ) → f nothing ≡ 0 → {es : List Event} {a : Event} → EndsWith es a → total f es ≡ f a
ends_total f p silent = sym p
ends_total f p one = omega arith
ends_total f p (more s) = omega (arith, ends_total f p s)

answers_total : (f : Event → ℕ) → f nothing ≡ 0 → f (refusal 3 0 0) ≡ 0 → {es : List Event} {a : Event} → Answers es a → total f es ≡ f a
answers_total f p q (table s) = ends_total f p s
answers_total f p q full = sym q

ends_stood : (k : Kept) (o : Option (List ℕ)) {es : List Event} {a : Event} → EndsWith es a → stood k o es ≡ update k a o
ends_stood k o silent = refl
ends_stood k o one = refl
ends_stood k o (more s) = ends_stood k o s

answers_stood : (k : Kept) (o : Option (List ℕ)) {es : List Event} {a : Event} → Answers es a → stood k o es ≡ update k a o
answers_stood k o (table s) = ends_stood k o s
answers_stood k o full = refl

ends_before : {es : List Event} {a : Event} → EndsWith es a → (i : ℕ) → suc i < length es → get_or es i nothing ≡ nothing
ends_before silent i h = absurd (omega arith)
ends_before one i h = absurd (omega arith)
ends_before (more s) zero h = refl
ends_before (more s) (suc i) h = ends_before s i (omega arith)

ends_last : {es : List Event} {a : Event} → EndsWith es a → (i : ℕ) → suc i ≡ length es → get_or es i nothing ≡ a
ends_last silent i h = absurd (omega arith)
ends_last one zero h = refl
ends_last one (suc i) h = absurd (omega arith)
ends_last (more silent) zero h = refl
ends_last (more silent) (suc i) h = absurd (omega arith)
ends_last (more one) zero h = absurd (omega arith)
ends_last (more one) (suc i) h = ends_last one i (omega arith)
ends_last (more (more s)) zero h = absurd (omega arith)
ends_last (more (more s)) (suc i) h = ends_last (more s) i (omega arith)

pub answers_before : {es : List Event} {a : Event} → Answers es a → (i : ℕ) → suc i < length es → get_or es i nothing ≡ nothing
answers_before (table s) i h = ends_before s i h
answers_before full i h = absurd (omega arith)

pub answers_last : {es : List Event} {a : Event} → Answers es a → (i : ℕ) → suc i ≡ length es → get_or es i nothing ≡ a
answers_last (table s) i h = ends_last s i h
answers_last full i h = absurd (omega arith)

pub shorter : (h : History) (t : List ℕ) → length (taken h ++ t) ≤ limit → length (taken h) ≤ limit
shorter h t l = omega (arith, length-append (taken h) t)

-- the sums, and the latest messages, of the answers
module _ (m : Mode) where
  pub sums : (f : Event → ℕ) → f nothing ≡ 0 → f (refusal 3 0 0) ≡ 0 → (h : History) → length (taken h) ≤ limit
      → Every (Right m) h → total f (events m W (taken h)) ≡ added f h
  sums f p q start l e = refl
  sums f p q (call h c n a) l (e, r) =
      let t = take n (offered c) in
      rw (events_append m W (taken h) t, total_append f (events m W (taken h)) (events m (after m W (taken h)) t))
      (omega (arith, sums f p q h (shorter h t l) e, answers_total f p q (right_answers m (taken h) (offered c) n a (shorter h t l) r)))

  pub stands : (k : Kept) (h : History) → length (taken h) ≤ limit → Every (Right m) h
      → stood k none (events m W (taken h)) ≡ stored k h
  stands k start l e = refl
  stands k (call h c n a) l (e, r) =
      let t = take n (offered c) in
      ap (stood k none) (events_append m W (taken h) t)
      ∙ stood_append k none (events m W (taken h)) (events m (after m W (taken h)) t)
      ∙ answers_stood k (stood k none (events m W (taken h))) (right_answers m (taken h) (offered c) n a (shorter h t l) r)
      ∙ ap (update k a) (stands k h (shorter h t l) e)

  pub lengths : (s : State) (bs : List ℕ) → PlaceOk m s → total accepts (events m s bs) ≡ total (frame_length m) (events m s bs)
  lengths s [] h = refl
  lengths s (b ∷ bs) h =
      let w = sound m s b (class_of b) refl h in
      omega (arith, same (next m s b).event w.1, lengths (next m s b).to bs w.0)
    where
      same : (e : Event) → Fine m e → accepts e ≡ frame_length m e
      same nothing f = refl
      same (message i d n) f = f.1
      same (refusal v i n) f = refl

  -- the event at a byte, counted from the state that earlier bytes leave
  pub at_after : (s : State) (xs ys : List ℕ) (i : ℕ)
      → get_or (events m s (xs ++ ys)) (length xs + i) nothing ≡ get_or (events m (after m s xs) ys) i nothing
  at_after s xs ys i =
      rw (events_append m s xs ys, ← length_events m s xs) (get_or-append-add (events m s xs) (events m (after m s xs) ys) i nothing)

  pub at_front : (s : State) (xs ys : List ℕ) (i : ℕ) → i < length xs
      → get_or (events m s (xs ++ ys)) i nothing ≡ get_or (events m s xs) i nothing
  at_front s xs ys i h =
      rw (events_append m s xs ys)
      (get_or-append (events m s xs) (events m (after m s xs) ys) nothing i (rw (length_events m s xs) h))

  pub frames_leave : (s : State) (xs : List Message) (x : Message) → after m s (frames m (x ∷ xs)) ≡ W
  frames_leave s [] x =
      after_append m s (line m x) [] ∙ resync m s x.id x.body (usable x.id x.body x.acceptable)
  frames_leave s (y ∷ xs) x = after_append m s (line m x) (frames m (y ∷ xs)) ∙ frames_leave (after m s (line m x)) xs y
