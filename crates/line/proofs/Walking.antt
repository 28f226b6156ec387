-- A slice, walked on the record that mirrors the table.
use mathlib.Core.Bool.{Bool, true, false, cond}
use mathlib.Core.List.{List, [], ◌∷◌, ◌++◌, append-nil}
use mathlib.Core.Path.{◌≡◌, refl, sym, ap, ◌∙◌, subst⁻¹}
use Prim.Native.Nat.{ℕ, suc}
use lib.Dec.{ltb}
use lib.ListN.{length, take}
use lib.Seq.{append_snoc}
use Rattle.line.specs.Frame.{Mode, mode_of}
use Rattle.line.specs.Table.{Event, next, after, events}
use Rattle.line.specs.Table.State.{W}
use Rattle.line.specs.Table.Event.{nothing, message, refusal}
use Rattle.line.specs.Record.{Result, limit, stepped, event_of, walk, or_stop, one_more}
use Rattle.line.specs.Calls.{last_event, last, due, if_nothing}
use Rattle.line.proofs.Reading.{events_append}
use Rattle.line.proofs.Resync.{after_append}
use Rattle.line.proofs.Mirror.{mirror, stepped_mirror}

last_append : (e : Event) (xs : List Event) (y : Event) (ys : List Event) → last e (xs ++ (y ∷ ys)) ≡ last y ys
last_append e [] y ys = refl
last_append e (x ∷ xs) y ys = last_append x xs y ys

-- the event of the last of t, read after the bytes before
abbrev pub event_after : Mode → List ℕ → List ℕ → Event
event_after m before t = last nothing (events m (after m W before) t)

pub last_event_append : (m : Mode) (before : List ℕ) (b : ℕ) (t : List ℕ) → last_event m (before ++ (b ∷ t)) ≡ event_after m before (b ∷ t)
last_event_append m before b t = ap (last nothing) (events_append m W before (b ∷ t)) ∙ last_append nothing (events m W before) _ _

pub record Walked (m : ℕ) (before bs : List ℕ) (x : Result) (t : List ℕ) : Type 0 where
  pub takes : take x.taken bs ≡ t
  pub counts : x.taken ≡ length t
  pub after : x.after ≡ mirror m (before ++ t)
  pub answer : x.answer ≡ event_after (mode_of m) before t

one : (m : ℕ) (before : List ℕ) (b : ℕ) (bs : List ℕ) (x : Result) (t : List ℕ) (e : Event)
    → (next (mode_of m) (after (mode_of m) W before) b).event ≡ e → Walked m (before ++ (b ∷ [])) bs x t → (c : Bool)
    → Walked m before (b ∷ bs)
    (cond c (or_stop e (one_more x) (record { after = stepped (mirror m before) b; answer = e; taken = 1 }))
    (record { after = mirror m before; answer = nothing; taken = 0 }))
    (cond c (b ∷ if_nothing e t) [])
one m before b bs x t e q w false = record { takes = refl; counts = refl; after = rw append-nil refl; answer = refl }
one m before b bs x t nothing q w true =
    record {
      takes = ap (λ l. b ∷ l) w.takes;
      counts = ap suc w.counts;
      after = w.after ∙ ap (mirror m) (append_snoc before b t);
      answer =
          w.answer
          ∙ ap (λ s. last nothing (events (mode_of m) s t)) (after_append (mode_of m) W before (b ∷ []))
          ∙ ap (λ e. last e (events (mode_of m) (next (mode_of m) (after (mode_of m) W before) b).to t)) (sym q);
    }
one m before b bs x t (message i d n) q w true =
    record { takes = refl; counts = refl; after = stepped_mirror m before b; answer = sym q }
one m before b bs x t (refusal v i n) q w true =
    record { takes = refl; counts = refl; after = stepped_mirror m before b; answer = sym q }

pub walked : (m : ℕ) (bs before : List ℕ) → Walked m before bs (walk (mirror m before) bs) (due (mode_of m) before bs)
walked m [] before = record { takes = refl; counts = refl; after = rw append-nil refl; answer = refl }
walked m (b ∷ bs) before =
    subst⁻¹ (λ e. Walked m before (b ∷ bs) (walk (mirror m before) (b ∷ bs)) (cond (ltb (length before) limit) (b ∷ if_nothing e t) []))
    (last_event_append (mode_of m) before b [])
    (one m before b bs (walk (stepped (mirror m before) b) bs) t (event_of (mirror m before) b) refl
    (subst⁻¹ (λ r. Walked m (before ++ (b ∷ [])) bs (walk r bs) t) (stepped_mirror m before b) (walked m bs (before ++ (b ∷ []))))
    (ltb (length before) limit))
  where
    t : List ℕ
    t = due (mode_of m) (before ++ (b ∷ [])) bs
