-- Each call of a list, by the contracts alone, is right, and leaves the record that mirrors the table.
use mathlib.Core.Bool.{Bool, true, false, cond}
use mathlib.Core.List.{List, [], ◌∷◌, ◌++◌, append-nil}
use mathlib.Core.Path.{◌≡◌, refl, sym, ap, ◌∙◌, subst, subst⁻¹}
use Prim.Native.Nat.{ℕ, ◌≤◌, ◌<◌}
use native.Mathlib.Omega.{arith}
use borrow.Author.Tests.{ltb-true, ltb-false, leb-true}
use lib.Dec.{ltb, leb}
use lib.ListN.{length, take, length-append}
use lib.Seq.{append_snoc}
use Rattle.line.specs.Frame.{Mode, mode_of, class_of}
use Rattle.line.specs.Table.{State, Event, next, after, events}
use Rattle.line.specs.Table.State.{W}
use Rattle.line.specs.Table.Event.{nothing, message, refusal}
use Rattle.line.specs.Record.{Rec, Result, limit, walk, fresh, StepPost, FeedPost, PlaceOk}
use Rattle.line.specs.Record.Fresh.{made, refused}
use Rattle.line.specs.Calls.{Call, History, Trace, taken, offered, last_event, last, due, if_nothing, number, step_took, Right, Every}
use Rattle.line.specs.Calls.Call.{step, feed}
use Rattle.line.specs.Calls.History.{start, call}
use Rattle.line.specs.Calls.Trace.{begun, stepped, fed}
use Rattle.line.proofs.Mirror.{w_ok, mirror, is_possible, Fine, sound, place_ok}
use Rattle.line.proofs.Walking.{event_after, last_event_append, Walked, walked}
use Rattle.line.proofs.Outcome.{full, outcome, Is, feed_outcome, step_outcome}

fine_last : (m : Mode) (s : State) (t : List ℕ) (e : Event) → PlaceOk m s → Fine m e → Fine m (last e (events m s t))
fine_last m s [] e h f = f
fine_last m s (b ∷ t) e h f =
    let w = sound m s b (class_of b) refl h in
    fine_last m (next m s b).to t (next m s b).event w.0 w.1

fine_number : (m : Mode) (e : Event) → Fine m e → 0 < number e → 3 < number e
fine_number m nothing f h = absurd (omega arith)
fine_number m (message i d n) f h = absurd (omega arith)
fine_number m (refusal v i n) f h = f

due_limit : (m : Mode) (bs before : List ℕ) → length before ≤ limit → length (before ++ due m before bs) ≤ limit
due_limit m [] before h = rw append-nil h
due_limit m (b ∷ bs) before h =
    by (ltb (length before) limit) refl (last_event m (before ++ (b ∷ []))) (λ g. due_limit m bs (before ++ (b ∷ [])) g)
  where
    t : List ℕ
    t = due m (before ++ (b ∷ [])) bs

    by : (c : Bool) → ltb (length before) limit ≡ c → (e : Event)
        → (length (before ++ (b ∷ [])) ≤ limit → length (before ++ (b ∷ []) ++ t) ≤ limit)
        → length (before ++ cond c (b ∷ if_nothing e t) []) ≤ limit
    by false q e ih = rw append-nil h
    by true q nothing ih =
        rw (← append_snoc before b t) (ih (simp length-append (omega (arith, ltb-true (length before) limit q))))
    by true q (message i d n) ih = simp length-append (omega (arith, ltb-true (length before) limit q))
    by true q (refusal v i n) ih = simp length-append (omega (arith, ltb-true (length before) limit q))

-- a call that takes its first byte
taking_right : (m : Mode) (before : List ℕ) (b : ℕ) (bs : List ℕ) (n : ℕ) (t : List ℕ) (a : Event) → length before < limit
    → take n (b ∷ bs) ≡ due m before (b ∷ bs) → n ≡ length (due m before (b ∷ bs)) → take n (b ∷ bs) ≡ b ∷ t
    → a ≡ event_after m before (take n (b ∷ bs)) → Right m before (b ∷ bs) n a
taking_right m before b bs n t a l d k c e =
    record {
      not_1 = λ q. omega (arith, high (omega arith));
      not_2 = λ q. omega (arith, high (omega arith));
      only_full = λ q. absurd (omega (arith, high (omega arith)));
      full = λ q g. absurd (omega arith);
      takes = d;
      counts = k;
      answers = λ g. e ∙ ap (event_after m before) c ∙ sym (last_event_append m before b t) ∙ ap (λ u. last_event m (before ++ u)) (sym c);
      empty = λ q. cc;
    }
  where
    high : 0 < number a → 3 < number a
    high =
        fine_number m a
        (subst⁻¹ (Fine m) e (fine_last m (after m W before) (take n (b ∷ bs)) nothing (place_ok m W before w_ok) tt))

pub record Made (m : ℕ) (before bs : List ℕ) (x : Result) : Type 0 where
  pub right : Right (mode_of m) before bs x.taken x.answer
  pub after : x.after ≡ mirror m (before ++ take x.taken bs)
  pub within : length (before ++ take x.taken bs) ≤ limit

-- a slice call on the mirror
pub makes : (m : ℕ) (bs before : List ℕ) → length before ≤ limit → Made m before bs (outcome (mirror m before) bs)
makes m [] before h =
    record {
      right =
          record {
            not_1 = λ e. omega arith;
            not_2 = λ e. omega arith;
            only_full = λ e. omega arith;
            full = λ e g. absurd (omega arith);
            takes = refl;
            counts = refl;
            answers = λ g. absurd (omega arith);
            empty = λ e. refl;
          };
      after = rw append-nil refl;
      within = rw append-nil h;
    }
makes m (b ∷ bs) before h = by (ltb (length before) limit) refl
  where
    M : Mode
    M = mode_of m

    x : Result
    x = walk (mirror m before) (b ∷ bs)

    w : Walked m before (b ∷ bs) x (due M before (b ∷ bs))
    w = walked m (b ∷ bs) before

    t : List ℕ
    t = if_nothing (last_event M (before ++ (b ∷ []))) (due M (before ++ (b ∷ [])) bs)

    by : (c : Bool) → ltb (length before) limit ≡ c → Made m before (b ∷ bs) (cond c x (full (mirror m before)))
    by true q =
        record {
          right =
              taking_right M before b bs x.taken t x.answer (ltb-true (length before) limit q) w.takes w.counts
              (w.takes ∙ ap (λ c. cond c (b ∷ t) []) q) (w.answer ∙ ap (event_after M before) (sym w.takes));
          after = w.after ∙ ap (λ u. mirror m (before ++ u)) (sym w.takes);
          within = rw w.takes (due_limit M (b ∷ bs) before h);
        }
    by false q =
        record {
          right =
              record {
                not_1 = λ e. omega arith;
                not_2 = λ e. omega arith;
                only_full = λ e. omega (arith, ltb-false (length before) limit q);
                full = λ e g. (refl, refl);
                takes = ap (λ c. cond c (b ∷ t) []) (sym q);
                counts = ap (λ c. length (cond c (b ∷ t) [])) (sym q);
                answers = λ g. absurd (omega arith);
                empty = λ e. cc;
              };
          after = rw append-nil refl;
          within = rw append-nil h;
        }

-- the whole list
pub record SoFar (m : ℕ) (h : History) (r : Rec) : Type 0 where
  pub mode : m ≤ 1
  pub mirrors : r ≡ mirror m (taken h)
  pub within : length (taken h) ≤ limit
  pub calls : Every (Right (mode_of m)) h

begins : (m : ℕ) {r : Rec} → fresh m ≡ made r → SoFar m start r
begins m {r} e = by (leb m 1) refl e
  where
    by : (t : Bool) → leb m 1 ≡ t → cond t (made (mirror m [])) (refused 1) ≡ made r → SoFar m start r
    by true q e = record { mode = leb-true m 1 q; mirrors = cc; within = omega arith; calls = tt }
    by false q e = let z : ◌≡◌ {A = ℕ} 0 1 = cc in absurd (omega arith)

one_more_lem : {m : ℕ} {h : History} {r r' : Rec} {a : Event} {n : ℕ} (c : Call) → SoFar m h r
    → Is (outcome (mirror m (taken h)) (offered c)) r' a n → SoFar m (call h c n a) r'
one_more_lem {m} {h} {r} {r'} {a} {n} c s i =
    record {
      mode = s.mode;
      mirrors = i.after ∙ k.after ∙ ap (λ j. mirror m (taken h ++ take j (offered c))) (sym i.taken);
      within = rw i.taken k.within;
      calls = (s.calls, rw (i.taken, i.answer) k.right);
    }
  where
    k : Made m (taken h) (offered c) (outcome (mirror m (taken h)) (offered c))
    k = makes m (offered c) (taken h) s.within

step_more : {m : ℕ} {h : History} {r r' : Rec} {b : ℕ} {a : Event} → SoFar m h r → StepPost r b r' a
    → SoFar m (call h (step b) (step_took a) a) r'
step_more {m} {h} {r} {r'} {b} {a} s p =
    one_more_lem (step b) s
    (step_outcome (mirror m (taken h)) b s.mode (is_possible m (taken h)) (subst (λ v. StepPost v b r' a) s.mirrors p))

feed_more : {m : ℕ} {h : History} {r r' : Rec} {bs : List ℕ} {a : Event} {n : ℕ} → SoFar m h r → FeedPost r bs r' a n
    → SoFar m (call h (feed bs) n a) r'
feed_more {m} {h} {r} {r'} {bs} {a} {n} s p =
    one_more_lem (feed bs) s
    (feed_outcome (mirror m (taken h)) bs s.mode (is_possible m (taken h)) (subst (λ v. FeedPost v bs r' a n) s.mirrors p))

pub so_far : (m : ℕ) {h : History} {r : Rec} → Trace m h r → SoFar m h r
so_far m (begun e) = begins m e
so_far m (stepped t p) = step_more (so_far m t) p
so_far m (fed t p) = feed_more (so_far m t) p
