-- The rows of the table, as what the makers return.
use mathlib.Core.Bool.{cond}
use mathlib.Core.List.{List, [], ◌∷◌, ◌++◌}
use mathlib.Core.Path.{◌≡◌, refl, sym, ap, ◌∙◌, subst}
use Prim.Native.Nat.{ℕ, zero, suc, ◌+◌, ◌-◌, ◌≤◌, ◌<◌}
use native.Mathlib.Numerals.{add-one}
use native.Mathlib.Omega.{arith}
use borrow.Author.Tests.{lt-ltb, le-ltb}
use lib.ListN.{length, take, set}
use lib.Seq.{length-take-le, take-suc-set}
use Rattle.stuffing.specs.Stuffing.{stuffed}
use Rattle.stuffing.proofs.StuffingLaws.{stuffed_nil}
use Rattle.line.specs.Frame.{Mode, Class, mode_of, class_of}
use Rattle.line.specs.Frame.Mode.{summed}
use Rattle.line.specs.Table.{State, Step, capacity, pending, go, skip, refuse, reopen, ends, join, row, next}
use Rattle.line.specs.Table.State.{W, F}
use Rattle.line.specs.Table.Event.{refusal}
use Rattle.line.specs.Record.{state_of}
use Rattle.line.specs.Record.Place.{at as on}
use Rattle.record.specs.View.{place_of}
use Rattle.reader.specs.Moving.{moving_of, place_now, turned, verdict_of, Pends, Fits, Taken, Moves, went, passed, opened, shut}
use Rattle.reader.specs.declared.Moving.{Moving}
use Rattle.refusals.specs.declared.Refusal.{Refusal}
use Rattle.refusals.specs.Numbers.{number}
use Rattle.reader.specs.declared.Act.TheVariants.{Quiet, Refused, Reopened, Ended}
use Rattle.reader.proofs.Stepping.{here, row_at, quiet_says, closed_says, ended_says, pending_went}

-- a row of the table, by the mode
pub row_mode : {m M : Mode} (s : State) (k : Class) (b : ℕ) {t : Step} → m ≡ M → row M s k b ≡ t → row m s k b ≡ t
row_mode s k b w e = ap (λ m. row m s k b) w ∙ e

pub mode_summed : (n : ℕ) → (n ≡ 0 → ⊥) → mode_of n ≡ summed
mode_summed zero h = absurd (h refl)
mode_summed (suc n) h = refl

-- the same numbers, at the place before the byte
pub fits_back : {m : Moving} {at n : ℕ} → Fits m at n → Fits m (at + 1 - 1) n
fits_back {m} {at} {n} f =
    let e : at ≡ at + 1 - 1 = omega arith in
    subst (λ (i : ℕ). Fits m i n) e f

-- the state of a place's number
pub in_place : (m : Moving) (a : List ℕ) (p : ℕ) → m.place ≡ p → state_of (place_now m a) ≡ state_of (place_of p m.id (take m.len a) m.c1 m.c2)
in_place m a p e = ap (λ (i : ℕ). state_of (place_of i m.id (take m.len a) m.c1 m.c2)) e

-- a byte is taken in a place
pub taken_at : {m : Moving} {at n p : ℕ} → Fits m at n → at < n → m.place ≡ p → Taken m (at + 1) n p
taken_at f h e = record { past = omega arith; within = omega arith; here = e; fits = fits_back f }

fits_shut : {m : Moving} {at n q : ℕ} → Taken m at n q → Fits (shut m Quiet at).now at n
fits_shut {m} t = record { known = t.fits.known; short = t.fits.short; room = omega arith }

-- the state of a place
abbrev pub placed : Moving → List ℕ → ℕ → State
placed m a q = state_of (place_of q m.id (take m.len a) m.c1 m.c2)

by_place : (k : ℕ) (m : Moving) (a : List ℕ) (b q : ℕ) {c : Class} {t : Step} → m.place ≡ q → class_of b ≡ c → row (mode_of k) (placed m a q) c b ≡ t
    → next (mode_of k) (here k m a b) b ≡ t
by_place k m a b q p e r = row_at (mode_of k) b (in_place m a q p) e r

module _ {k : ℕ} {m : Moving} {a : List ℕ} {b at n q : ℕ} (taken : Taken m at n q) where
  -- a byte that pends: the place is p, and the checksum's bytes are x and y
  pub steps_went : {x y p : ℕ} {s' : State} {c : Class} → class_of b ≡ c → row (mode_of k) (placed m a q) c b ≡ go s'
      → place_of p m.id (take m.len a) x y ≡ on s' → p < 8 → Pends m a
      → Moves k m a a b at n
      (went (moving_of m.place m.id x y m.len m.outside m.pending) p at)
  unfolding turned
  steps_went {x} {y} {p} {s'} v w u l h =
      let e = by_place k m a b q taken.here v w in
      record {
        fits = record { known = l; short = taken.fits.short; room = omega (arith, taken.fits.room, taken.past) };
        tally = omega arith;
        busy = tt;
        next = refl;
        says = λ z f.
            quiet_says k m a b z f (place_of p m.id (take m.len a) x y) s' (m.pending + 1) m.outside 0 e u
            (omega (arith, h, pending_went (mode_of k) (here k m a b) s' b e)) (omega arith);
      }

  -- two bytes stay outside
  pub steps_passed : {c : Class} → class_of b ≡ c → row (mode_of k) (placed m a q) c b ≡ skip 2 → m.pending ≡ 1 → Moves k m a a b at n (passed m at)
  unfolding turned place_of
  steps_passed v w h =
      record {
        fits = record { known = omega arith; short = taken.fits.short; room = omega (arith, taken.fits.room, taken.past, h) };
        tally = omega (arith, h);
        busy = tt;
        next = refl;
        says = λ z f. quiet_says k m a b z f (on W) W 0 (m.outside + 2) 2 (by_place k m a b q taken.here v w) refl refl refl;
      }

  -- a frame is open
  pub steps_opened : {c : Class} → class_of b ≡ c → row (mode_of k) (placed m a q) c b ≡ go (F b []) → m.pending ≡ pending (placed m a q) → Moves k m a a b at n (opened m b at)
  unfolding turned place_of
  steps_opened v w h =
      let e = by_place k m a b q taken.here v w in
      record {
        fits = record { known = omega arith; short = omega arith; room = omega (arith, taken.fits.room, taken.past) };
        tally = omega arith;
        busy = tt;
        next = refl;
        says = λ z f.
            quiet_says k m a b z f (on (F b [])) (F b []) (m.pending + 1) m.outside 0 e refl
            (omega (arith, h, ap pending (in_place m a q taken.here), pending_went (mode_of k) (here k m a b) (F b []) b e)) (omega arith);
      }

  -- the frame is refused
  pub steps_refused : (f : Refusal) {c : Class} → class_of b ≡ c → row (mode_of k) (placed m a q) c b ≡ refuse (number f) m.id (pending (placed m a q) + 1) → 1 ≤ pending (placed m a q) → Pends m a
      → Moves k m a a b at n (shut m (Refused f) at)
  unfolding turned
  steps_refused f v w g h =
      record {
        fits = fits_shut taken;
        tally = omega arith;
        busy = omega (arith, h, g, ap pending (in_place m a q taken.here));
        next = refl;
        says = λ z n.
            closed_says k m a b z n W 0 (m.pending + 1) 0 (refusal (number f) m.id (m.pending + 1))
            (by_place k m a b q taken.here v w ∙ ap (λ (j : ℕ). refuse (number f) m.id (j + 1)) (ap pending (sym (in_place m a q taken.here)) ∙ sym h)) refl refl refl;
      }

  -- the frame is refused, and a new one is open
  pub steps_reopened : (f : Refusal) {j : ℕ} {c : Class} → class_of b ≡ c → row (mode_of k) (placed m a q) c b ≡ reopen (number f) m.id j b → j + 1 ≡ pending (placed m a q) → 1 ≤ pending (placed m a q) → Pends m a
      → Moves k m a a b at n (shut m (Reopened f b) at)
  unfolding turned
  steps_reopened f {j} v w g l h =
      let u : m.pending + 1 - 2 ≡ j = omega (arith, g, h, ap pending (in_place m a q taken.here)) in
      let no : 2 ≡ length (stuffed []) + 2 = (let w = ap length stuffed_nil in omega arith) in
      record {
        fits = fits_shut taken;
        tally = omega arith;
        busy = omega (arith, h, l, ap pending (in_place m a q taken.here));
        next = refl;
        says = λ z n.
            closed_says k m a b z n (F b []) 0 (m.pending + 1 - 2) 2 (refusal (number f) m.id (m.pending + 1 - 2))
            (by_place k m a b q taken.here v w ∙ ap (λ (i : ℕ). reopen (number f) m.id i b) (sym u)) refl refl no;
      }

  -- the frame ends
  pub steps_ended : {c : Class} → class_of b ≡ c → row (mode_of k) (placed m a q) c b ≡ ends (verdict_of k m a) m.id (take m.len a) (pending (placed m a q) + 1)
      → 1 ≤ pending (placed m a q) → Pends m a → Moves k m a a b at n (shut m Ended at)
  unfolding turned
  steps_ended v w g h =
      record {
        fits = fits_shut taken;
        tally = omega arith;
        busy = omega (arith, h, g, ap pending (in_place m a q taken.here));
        next = refl;
        says = λ z f.
            ended_says k m a b z f (verdict_of k m a) m.id (take m.len a) (pending (placed m a q) + 1) (by_place k m a b q taken.here v w) (shut m Ended at).now a refl refl
            (ap (λ (j : ℕ). j + 1) (h ∙ ap pending (in_place m a q taken.here))) refl;
      }

  -- a byte joins the data
  pub steps_stored : {c : Class} → class_of b ≡ c → row (mode_of k) (placed m a q) c b ≡ join m.id (take m.len a) b (pending (placed m a q) + 1) → length a ≡ 1024
      → m.len < 1024 → Pends m a
      → Moves k m a (set a m.len b) b at n
      (went (record { place = m.place; id = m.id; c1 = m.c1; c2 = m.c2; len = m.len + 1; outside = m.outside; pending = m.pending }) 2 at)
  unfolding turned place_of
  steps_stored v w r l h =
      let p : m.len < length a = omega arith in
      let c : length (take m.len a) ≡ m.len = length-take-le m.len a (omega arith) in
      let s' : State = F m.id (take m.len a ++ (b ∷ [])) in
      let d : next (mode_of k) (here k m a b) b ≡ go s' =
      by_place k m a b q taken.here v w ∙ ap (λ t. cond t (go s') (refuse 4 m.id (pending (placed m a q) + 1))) (lt-ltb (length (take m.len a)) capacity (omega (arith, c))) in
      let u : take (m.len + 1) (set a m.len b) ≡ take m.len a ++ (b ∷ []) =
      ap (λ (j : ℕ). take j (set a m.len b)) (add-one m.len) ∙ take-suc-set a m.len b p in
      record {
        fits = record { known = omega arith; short = omega arith; room = omega (arith, taken.fits.room, taken.past) };
        tally = omega arith;
        busy = tt;
        next = refl;
        says = λ z f.
            quiet_says k m a b z f (on (F m.id (take (m.len + 1) (set a m.len b)))) s' (m.pending + 1) m.outside 0 d
            (ap (λ x. on (F m.id x)) u) (omega (arith, h, pending_went (mode_of k) (here k m a b) s' b d)) (omega arith);
      }

-- there is no room
pub full_join : (id : ℕ) (a : List ℕ) (len b n : ℕ) → length a ≡ 1024 → len ≡ 1024 → join id (take len a) b n ≡ refuse 4 id n
full_join id a len b n w l =
    let c : length (take len a) ≡ len = length-take-le len a (omega arith) in
    ap (λ t. cond t (go (F id (take len a ++ (b ∷ [])))) (refuse 4 id n)) (le-ltb (length (take len a)) capacity (omega (arith, c)))
