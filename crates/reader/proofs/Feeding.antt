-- What is left to do of a slice: one byte, the end, the limit.
use mathlib.Core.Bool.{Bool, true, false, cond}
use mathlib.Core.List.{List}
use mathlib.Core.Option.{none}
use mathlib.Core.Path.{◌≡◌, refl, sym, ap, ◌∙◌, subst, subst⁻¹}
use Prim.Native.Nat.{ℕ, suc, ◌+◌, ◌≤◌, ◌<◌}
use native.Mathlib.Numerals.{add-one}
use native.Mathlib.Omega.{arith}
use borrow.Author.Tests.{lt-ltb, le-ltb, ltb-true, ltb-false}
use lib.Dec.{eqb, ltb}
use lib.ListN.{length, drop, get_or, drop_of_length-le}
use lib.Seq.{drop-cons}
use Rattle.line.specs.Frame.{mode_of, class_of}
use Rattle.line.proofs.Mirror.{sound}
use Rattle.line.specs.Table.{Event as Said, pending}
use Rattle.line.specs.Table.Event.{nothing, message, refusal}
use Rattle.line.specs.Record.{Rec, Result, limit, state_of, event_of, stepped, one_more, or_stop, walk, PlaceOk}
use Rattle.record.proofs.Data.{tested}
use Rattle.reader.specs.Moving.{Base, Out, one, see, place_now, turned, ended, verdict_of, ahead, onward, Pends, Sound, Fits, Moves, Goes, Ran}
use Rattle.reader.specs.declared.Moving.{Moving}
use Rattle.reader.specs.declared.Moved.{Moved}
use Rattle.reader.specs.declared.Act.{Act}
use Rattle.reader.specs.declared.Act.TheVariants.{Quiet, Refused, Reopened, Ended}

-- one byte more, whatever it raises
more_by : (e : Said) (at : ℕ) (y : Result) (r : Rec)
    → ahead at (or_stop e (one_more y) (record { after = r; answer = e; taken = 1 }))
    ≡ or_stop e (ahead (suc at) y) (record { after = r; answer = e; taken = suc at })
more_by nothing at y r =
    let e : at + suc y.taken ≡ suc at + y.taken = omega arith in
    λ i. record { after = y.after; answer = y.answer; taken = e i }
more_by (message i d n) at y r = λ j. record { after = r; answer = message i d n; taken = add-one at j }
more_by (refusal v i n) at y r = λ j. record { after = r; answer = refusal v i n; taken = add-one at j }

walk_one : (x : Rec) (s : List ℕ) (at : ℕ) → at < length s → x.fed < limit
    → walk x (drop at s)
    ≡ or_stop (event_of x (get_or s at 0)) (one_more (walk (stepped x (get_or s at 0)) (drop (suc at) s)))
    (record { after = stepped x (get_or s at 0); answer = event_of x (get_or s at 0); taken = 1 })
walk_one x s at h l =
    ap (walk x) (drop-cons s at 0 h)
    ∙ ap
    (λ t.
    cond t
    (or_stop (event_of x (get_or s at 0)) (one_more (walk (stepped x (get_or s at 0)) (drop (suc at) s)))
    (record { after = stepped x (get_or s at 0); answer = event_of x (get_or s at 0); taken = 1 }))
    (record { after = x; answer = nothing; taken = 0 }))
    (lt-ltb x.fed limit l)

pub one_step : (x : Rec) (s : List ℕ) (at : ℕ) (o : Out) → o ≡ one x (get_or s at 0) → at < length s → x.fed < limit
    → ahead at (walk x (drop at s)) ≡ onward o s (at + 1)
one_step x s at o e h l =
    ap (ahead at) (walk_one x s at h l)
    ∙ more_by (event_of x (get_or s at 0)) at (walk (stepped x (get_or s at 0)) (drop (suc at) s)) (stepped x (get_or s at 0))
    ∙ (λ i. onward (sym e i) s (sym (add-one at) i))

-- the numbers of a quiet byte pend
any : Base
any = record { accepted = 0; refused = 0; fed = 0; latest = λ k. none }

pends_of : {k : ℕ} {m : Moving} {a a' : List ℕ} {b at n : ℕ} {t : Moved} → Moves k m a a' b at n t → t.act ≡ Quiet → Pends t.now a'
unfolding turned
pends_of {k} {m} {a} {a'} {b} {t = t} x e =
    ap (λ (o : Out). o.after.pending) w ∙ sym (ap (λ (o : Out). pending (state_of o.after.place)) w)
  where
    w : record { after = see k any t.now a' (0 + 1); event = nothing } ≡ one (see k any m a 0) b
    w = ap (λ (y : Act). turned k any y t.now a' (0 + 1)) (sym e) ∙ x.says any 0

-- and their place stays possible
sound_of : {k : ℕ} {m : Moving} {a a' : List ℕ} {b at n : ℕ} {t : Moved} → Moves k m a a' b at n t → t.act ≡ Quiet → Sound k m a
    → Sound k t.now a'
unfolding turned
sound_of {k} {m} {a} {a'} {b} {t = t} x e h =
    subst⁻¹ (PlaceOk (mode_of k)) (ap (λ (o : Out). state_of o.after.place) w) (sound (mode_of k) (state_of (place_now m a)) b (class_of b) refl h).0
  where
    w : record { after = see k any t.now a' (0 + 1); event = nothing } ≡ one (see k any m a 0) b
    w = ap (λ (y : Act). turned k any y t.now a' (0 + 1)) (sym e) ∙ x.says any 0

-- a function of one byte, as one of some bytes
pub goes_of : {k : ℕ} {m : Moving} {a a' s : List ℕ} {at n : ℕ} {t : Moved} → Moves k m a a' (get_or s at 0) (at + 1) n t → at < n
    → n ≤ length s → length a' ≡ 1024 → Goes k m a a' s at n t
goes_of {k} {m} {a} {a'} {s} {at} {n} {t} x h l w =
    record {
      fits = subst (λ (i : ℕ). Fits t.now i n) (sym x.next) x.fits;
      pends = pends_of x;
      sound = sound_of x;
      tally = omega (arith, x.tally, x.next);
      busy = x.busy;
      more = omega (arith, x.next);
      most = omega (arith, x.next);
      whole = w;
      says = λ z q.
          one_step (see k z m a (z.fed + at)) s at _ (x.says z (z.fed + at)) (omega arith) (omega arith)
          ∙ ap (λ (i : ℕ). onward (turned k z t.act t.now a' i) s (at + 1))
          (let e : z.fed + at + 1 ≡ z.fed + (at + 1) = omega arith in e)
          ∙ ap (λ (i : ℕ). onward (turned k z t.act t.now a' (z.fed + i)) s i) (sym x.next);
    }

-- bytes that raise nothing
abbrev pub Silent : ℕ → Moving → List ℕ → Moving → List ℕ → List ℕ → ℕ → ℕ → ℕ → Type 0
Silent k m a w a' s at to n =
    (z : Base) → z.fed + n ≤ limit
    → ahead at (walk (see k z m a (z.fed + at)) (drop at s)) ≡ ahead to (walk (see k z w a' (z.fed + to)) (drop to s))

-- and then more
pub then_goes : {k : ℕ} {m w : Moving} {a a' a'' s : List ℕ} {at to n : ℕ} {t : Moved} → Silent k m a w a' s at to n → at ≤ to
    → w.outside + w.pending + at ≡ m.outside + m.pending + to → (Sound k m a → Sound k w a') → Goes k w a' a'' s to n t
    → Goes k m a a'' s at n t
then_goes q h e v g =
    record {
      fits = g.fits;
      pends = g.pends;
      sound = λ y u. g.sound y (v u);
      tally = omega (arith, e, g.tally);
      busy = g.busy;
      more = omega (arith, g.more);
      most = g.most;
      whole = g.whole;
      says = λ z l. q z l ∙ g.says z l;
    }

-- and then the end
pub then_stop : {k : ℕ} {m w : Moving} {a a' s : List ℕ} {at to n : ℕ} → Silent k m a w a' s at to n → at < to → to ≤ n
    → w.outside + w.pending + at ≡ m.outside + m.pending + to → Fits w to n → Pends w a' → (Sound k m a → Sound k w a')
    → length a' ≡ 1024 → Goes k m a a' s at n (record { now = w; act = Quiet; at = to })
unfolding turned
then_stop q h l e f p v w =
    record { fits = f; pends = λ z. p; sound = λ y u. v u; tally = e; busy = tt; more = h; most = l; whole = w; says = q }

-- nothing is done yet
pub begin : (k : ℕ) (z : Base) (m : Moving) (a s : List ℕ)
    → walk (see k z m a z.fed) s ≡ ahead 0 (walk (see k z m a (z.fed + 0)) (drop 0 s))
begin k z m a s =
    let e : z.fed ≡ z.fed + 0 = omega arith in
    let x = walk (see k z m a (z.fed + 0)) s in
    let n : x.taken ≡ 0 + x.taken = omega arith in
    ap (λ (f : ℕ). walk (see k z m a f) s) e ∙ (λ i. record { after = x.after; answer = x.answer; taken = n i })

-- an act that goes on
keep_on : (k : ℕ) (z : Base) (t : Moved) (a s : List ℕ) (f n : ℕ) → t.act ≡ Quiet
    → onward (turned k z t.act t.now a f) s n ≡ ahead n (walk (see k z t.now a f) (drop n s))
unfolding turned
keep_on k z t a s f n e = ap (λ (y : Act). onward (turned k z y t.now a f) s n) e

-- what holds at the head of the outer loop
abbrev pub Left : ℕ → Moving → List ℕ → List ℕ → ℕ → List ℕ → Moving → ℕ → Type 0
Left k m₀ a₀ s n a m at =
    (z : Base) → z.fed + n ≤ limit
    → walk (see k z m₀ a₀ z.fed) s ≡ ahead at (walk (see k z m a (z.fed + at)) (drop at s))

-- a turn that goes on
pub left_again : (k : ℕ) (m₀ : Moving) (a₀ : List ℕ) {m : Moving} {a a' s : List ℕ} {at n : ℕ} {t : Moved} → Left k m₀ a₀ s n a m at
    → Goes k m a a' s at n t → t.act ≡ Quiet → Left k m₀ a₀ s n a' t.now t.at
left_again k m₀ a₀ {a' = a'} {s = s} {t = t} l g e z q =
    l z q ∙ g.says z q ∙ keep_on k z t a' s (z.fed + t.at) t.at e

-- the end
pub ran_through : {k : ℕ} {m₀ m : Moving} {a₀ a s : List ℕ} {at n : ℕ} → Left k m₀ a₀ s n a m at
    → m.outside + m.pending ≡ m₀.outside + m₀.pending + at → Fits m at n → at ≡ n → length a ≡ 1024
    → Ran k m₀ a₀ a s n (record { now = m; act = Quiet; at = at })
unfolding turned
ran_through l y f e w =
    record { fits = f; tally = y; busy = tt; most = omega (arith, e); through = λ q. e; whole = w; says = l }

-- at the end of the slice or at the limit
stops : (x : Rec) (s : List ℕ) (n : ℕ) → (n < length s → limit ≤ x.fed)
    → ahead n (walk x (drop n s)) ≡ record { after = x; answer = nothing; taken = n }
stops x s n f =
    let e : n + 0 ≡ n = omega arith in
    tested (ltb n (length s))
    (λ t.
    let h = ltb-true n (length s) t in
    ap (λ l. ahead n (walk x l)) (drop-cons s n 0 h)
    ∙ ap
    (λ c.
    ahead n
    (cond c
    (or_stop (event_of x (get_or s n 0)) (one_more (walk (stepped x (get_or s n 0)) (drop (suc n) s)))
    (record { after = stepped x (get_or s n 0); answer = event_of x (get_or s n 0); taken = 1 }))
    (record { after = x; answer = nothing; taken = 0 })))
    (le-ltb x.fed limit (f h))
    ∙ (λ i. record { after = x; answer = nothing; taken = e i }))
    (λ t.
    ap (λ l. ahead n (walk x l)) (drop_of_length-le s (ltb-false n (length s) t)) ∙ (λ i. record { after = x; answer = nothing; taken = e i }))

ended_stops : (t : Bool) (v k : ℕ) (z : Base) (m : Moving) (a : List ℕ) (f : ℕ) (s : List ℕ) (at : ℕ)
    → onward (ended t v k z m a f) s at ≡ record { after = (ended t v k z m a f).after; answer = (ended t v k z m a f).event; taken = at }
ended_stops true v k z m a f s at = refl
ended_stops false v k z m a f s at = refl

-- the run is over
pub closes : (k : ℕ) (z : Base) (x : Act) (m : Moving) (a s : List ℕ) (at : ℕ)
    → (x ≡ Quiet → at < length s → limit ≤ z.fed + at)
    → onward (turned k z x m a (z.fed + at)) s at
    ≡ record { after = (turned k z x m a (z.fed + at)).after; answer = (turned k z x m a (z.fed + at)).event; taken = at }
unfolding turned
closes k z Quiet m a s at f = stops (see k z m a (z.fed + at)) s at (λ h. f refl h)
closes k z (Refused v) m a s at f = refl
closes k z (Reopened v b) m a s at f = refl
closes k z Ended m a s at f = ended_stops (eqb (verdict_of k m a) 0) (verdict_of k m a) k z m a (z.fed + at) s at
