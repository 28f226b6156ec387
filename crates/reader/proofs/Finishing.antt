-- What an act comes to is what the table makes of it.
use mathlib.Core.Bool.{Bool, true, false, cond}
use mathlib.Core.List.{List, []}
use mathlib.Core.Option.{Option}
use mathlib.Core.Path.{◌≡◌, refl, sym, subst}
use Prim.Native.Nat.{ℕ, ◌+◌, ◌-◌, ◌≤◌}
use native.Mathlib.Nat.{add-zero}
use native.Mathlib.Omega.{arith}
use borrow.Author.Tests.{ne_eqb}
use Rattle.std.specs.Prelude.{Result, Ok, Err}
use Rattle.refusals.specs.declared.Refusal.{Refusal}
use Rattle.refusals.specs.Numbers.{number, code}
use Rattle.refusals.proofs.NumberLaws.{positive}
use lib.Dec.{eqb}
use lib.ListN.{length, take}
use Rattle.kinds.specs.Kinds.{content}
use Rattle.line.specs.Frame.{Mode, mode_of, agrees, judge, Acceptable}
use Rattle.line.specs.Frame.Mode.{plain, summed}
use Rattle.line.specs.Table.State.{W, F}
use Rattle.line.specs.Table.Event.{nothing, message, refusal}
use Rattle.line.specs.Record.{Kept, update}
use Rattle.line.specs.Record.Place.{at as on}
use Rattle.record.specs.View.{place_of, first_bytes}
use Rattle.record.proofs.Data.{data_take}
use Rattle.reader.specs.Moving.{see, closed_by, ended, verdict_of, base_of}
use Rattle.reader.specs.Closing.{head_with, resumed, reopened_by, dismissed, concluded, stored_by, see_head, Finishes}
use Rattle.record.specs.declared.Head.{Head}
use Rattle.reader.specs.declared.Moving.{Moving}
use Rattle.record.specs.View.Event.{Message}

-- where questions 9 to 12 are yes, 10 to 12 are
judge_accepts : (m : Mode) (id : ℕ) (d : List ℕ) (c1 c2 : ℕ) → judge m id d c1 c2 ≡ 0 → Acceptable id d
judge_accepts plain id d c1 c2 h = h
judge_accepts summed id d c1 c2 h = by (agrees id d c1 c2) h
  where
    by : (t : Bool) → cond t (content id d) 9 ≡ 0 → content id d ≡ 0
    by true h = h
    by false h = absurd (omega arith)

not_kept : {P : Type 0} → false ≡ true → P
not_kept e = let z : ◌≡◌ {A = ℕ} 0 1 = cc in absurd (omega arith)

module _ (h : Head) (m : Moving) (at : ℕ) (a : List ℕ) (l : Kept → Option (List ℕ)) (short : m.len ≤ 1024) (whole : length a ≡ 1024) where
  pub finish_quiet : Finishes l (record { after = see h.mode (base_of h l) m a (h.fed + at); event = nothing }) a
      (resumed h m at)
  unfolding first_bytes
  finish_quiet =
      record {
        after = λ i. see_head_as i;
        said = refl;
        short = omega arith;
        good = λ e. not_kept e;
      }
    where
      d : first_bytes m.len a ≡ take m.len a
      d = data_take m.len a (omega arith)

      see_head_as : see_head (head_with h m at m.place m.id m.len m.pending) a (stored_by false 0 (take 0 a) l)
          ≡ see h.mode (base_of h l) m a (h.fed + at)
      see_head_as =
          λ i.
          record {
            mode = h.mode;
            place = place_of m.place m.id (d i) m.c1 m.c2;
            fed = h.fed + at;
            accepted = h.accepted;
            refused = h.refused;
            outside = m.outside;
            pending = m.pending;
            latest = l;
          }

  pub finish_refused : (v : Refusal)
      → Finishes l (closed_by h.mode (base_of h l) 0 m.pending (on W) m.outside 0 (h.fed + at) (refusal (number v) m.id m.pending)) a
      (dismissed h m at v)
  unfolding first_bytes place_of
  finish_refused v =
      record {
        after = λ i.
            record {
              mode = h.mode;
              place = on W;
              fed = h.fed + at;
              accepted = sym (add-zero h.accepted) i;
              refused = h.refused + m.pending;
              outside = m.outside;
              pending = 0;
              latest = l;
            };
        said = refl;
        short = omega arith;
        good = λ e. not_kept e;
      }

  pub finish_reopened : (v : Refusal) (b : ℕ)
      → Finishes l (closed_by h.mode (base_of h l) 0 (m.pending - 2) (on (F b [])) m.outside 2 (h.fed + at) (refusal (number v) m.id (m.pending - 2))) a
      (reopened_by h m b at v)
  unfolding first_bytes place_of
  finish_reopened v b =
      record {
        after = λ i.
            record {
              mode = h.mode;
              place = on (F b []);
              fed = h.fed + at;
              accepted = sym (add-zero h.accepted) i;
              refused = h.refused + (m.pending - 2);
              outside = m.outside;
              pending = 2;
              latest = l;
            };
        said = refl;
        short = omega arith;
        good = λ e. not_kept e;
      }

  pub finish_ended : (x : Result (Unit {0}) Refusal) → code x ≡ verdict_of h.mode m a
      → Finishes l (ended (eqb (verdict_of h.mode m a) 0) (verdict_of h.mode m a) h.mode (base_of h l) m a (h.fed + at)) a
      (concluded h m at x)
  unfolding first_bytes place_of
  finish_ended x e = subst P e (by x e)
    where
      P : ℕ → Type 0
      P w = Finishes l (ended (eqb w 0) w h.mode (base_of h l) m a (h.fed + at)) a (concluded h m at x)

      d : first_bytes m.len a ≡ take m.len a
      d = data_take m.len a (omega arith)

      by : (y : Result (Unit {0}) Refusal) → code y ≡ verdict_of h.mode m a
          → Finishes l (ended (eqb (code y) 0) (code y) h.mode (base_of h l) m a (h.fed + at)) a (concluded h m at y)
      by (Ok u) q =
          record {
            after = λ i.
                record {
                  mode = h.mode;
                  place = on W;
                  fed = h.fed + at;
                  accepted = h.accepted + m.pending;
                  refused = sym (add-zero h.refused) i;
                  outside = m.outside;
                  pending = 0;
                  latest = λ j. update j (message m.id (take m.len a) m.pending) (l j);
                };
            said = λ i. record { event = Message; id = m.id; body = d i; closed = m.pending };
            short = short;
            good = λ z. judge_accepts (mode_of h.mode) m.id (take m.len a) m.c1 m.c2 (sym q);
          }
      by (Err v) q = rw (ne_eqb (number v) 0 (positive v)) (finish_refused v)
