-- One byte of the table, outcome by outcome, on the record of the moving numbers.
use mathlib.Core.Bool.{Bool, true, false}
use mathlib.Core.List.{List, []}
use mathlib.Core.Path.{◌≡◌, refl, sym, ap, ◌∙◌}
use Prim.Native.Nat.{ℕ, ◌+◌}
use native.Mathlib.Nat.{add-zero}
use native.Mathlib.Omega.{arith}
use lib.Dec.{eqb}
use lib.ListN.{length, take}
use Rattle.stuffing.proofs.StuffingLaws.{stuffed_nil}
use Rattle.line.specs.Frame.{Mode, Class, mode_of, class_of}
use Rattle.line.specs.Table.{State, Event as Said, Step, pending, go, verdict, ends, row, next, accepts, refuses}
use Rattle.line.specs.Table.State.{W, F}
use Rattle.line.specs.Table.Event.{nothing}
use Rattle.line.specs.Record.{Rec, Place, state_of, update}
use Rattle.line.specs.Record.Place.{at as on}
use Rattle.line.proofs.Account.{balanced}
use Rattle.reader.specs.Moving.{Base, Out, one, see, place_now, closed_by, ended}
use Rattle.reader.specs.declared.Moving.{Moving}

-- a record and an answer by a step of the table
abbrev pub by_step : Rec → Step → Out
by_step r t =
    record {
      after =
          record {
            mode = r.mode;
            place = on t.to;
            fed = r.fed + 1;
            accepted = r.accepted + accepts t.event;
            refused = r.refused + refuses t.event;
            outside = r.outside + t.outside;
            pending = pending t.to;
            latest = λ k. update k t.event (r.latest k);
          };
      event = t.event;
    }

pub one_by : (r : Rec) (b : ℕ) {t : Step} → next (mode_of r.mode) (state_of r.place) b ≡ t → by_step r t ≡ one r b
one_by r b e = ap (by_step r) (sym e)

-- the row of a state and a class
pub row_at : (m : Mode) {z s : State} (b : ℕ) {k : Class} {t : Step} → z ≡ s → class_of b ≡ k → row m s k b ≡ t → next m z b ≡ t
row_at m b p c e = (λ i. row m (p i) (c i) b) ∙ e

-- the pending bytes after a step that raises nothing
pub pending_went : (m : Mode) (s s' : State) (b : ℕ) → next m s b ≡ go s' → pending s + 1 ≡ pending s'
pending_went m s s' b e =
    let w : pending s + 1 ≡ pending s' + 0 + 0 + 0 =
    balanced m s b (class_of b) refl ∙ ap (λ (t : Step). pending t.to + accepts t.event + refuses t.event + t.outside) e in
    omega arith

no_data : (b : ℕ) → 2 ≡ pending (F b [])
no_data b = let w = ap length stuffed_nil in omega arith

module _ (k : ℕ) (m : Moving) (a : List ℕ) (b : ℕ) where
  -- the state that the moving numbers stand for
  abbrev pub here : State
  here = state_of (place_now m a)

  module _ (z : Base) (f : ℕ) where
    -- nothing is raised: the place, the pending bytes and the bytes outside may change
    pub quiet_says : (p : Place) (s' : State) (h o n : ℕ) → next (mode_of k) here b ≡ record { to = s'; event = nothing; outside = n } → p ≡ on s'
        → h ≡ pending s' → o ≡ m.outside + n
        → record {
          after =
              record { mode = k; place = p; fed = f + 1; accepted = z.accepted; refused = z.refused; outside = o; pending = h; latest = z.latest };
          event = nothing;
        }
        ≡ one (see k z m a f) b
    quiet_says p s' h o n e q r u =
        (λ i.
        record {
          after =
              record {
                mode = k;
                place = q i;
                fed = f + 1;
                accepted = sym (add-zero z.accepted) i;
                refused = sym (add-zero z.refused) i;
                outside = u i;
                pending = r i;
                latest = z.latest;
              };
          event = nothing;
        })
        ∙ one_by (see k z m a f) b e

    -- a frame is closed by an event
    pub closed_says : (p : State) (x r h : ℕ) (e : Said) → next (mode_of k) here b ≡ record { to = p; event = e; outside = 0 } → x ≡ accepts e
        → r ≡ refuses e → h ≡ pending p → closed_by k z x r (on p) m.outside h (f + 1) e ≡ one (see k z m a f) b
    closed_says p x r h e q u v w =
        (λ i.
        record {
          after =
              record {
                mode = k;
                place = on p;
                fed = f + 1;
                accepted = z.accepted + u i;
                refused = z.refused + v i;
                outside = sym (add-zero m.outside) i;
                pending = w i;
                latest = λ j. update j e (z.latest j);
              };
          event = e;
        })
        ∙ one_by (see k z m a f) b q

    pub ended_says : (v id : ℕ) (d : List ℕ) (n : ℕ) → next (mode_of k) here b ≡ ends v id d n → (w : Moving) (a' : List ℕ) → w.id ≡ id
        → take w.len a' ≡ d → w.pending ≡ n → w.outside ≡ m.outside
        → ended (eqb v 0) v k z w a' (f + 1) ≡ one (see k z m a f) b
    ended_says v id d n e w a' p q r o = by (eqb v 0) e
      where
        by : (t : Bool) → next (mode_of k) here b ≡ record { to = W; event = verdict t v id d n; outside = 0 }
            → ended t v k z w a' (f + 1) ≡ one (see k z m a f) b
        by true e =
            (λ i. closed_by k z (r i) 0 (on W) (o i) 0 (f + 1) (verdict true v (p i) (q i) (r i)))
            ∙ closed_says W n 0 0 (verdict true v id d n) e refl refl refl
        by false e =
            (λ i. closed_by k z 0 (r i) (on W) (o i) 0 (f + 1) (verdict false v (p i) (q i) (r i)))
            ∙ closed_says W 0 n 0 (verdict false v id d n) e refl refl refl
