-- What the table keeps of question 2, and the record that mirrors the table after some bytes.
use mathlib.Core.Bool.{Bool, true, false, cond}
use mathlib.Core.List.{List, [], ◌∷◌, ◌++◌, append-nil}
use mathlib.Core.Option.{Option, none}
use mathlib.Core.Path.{◌≡◌, refl, sym, subst, subst⁻¹}
use Prim.Native.Nat.{ℕ, ◌+◌, ◌<◌}
use native.Mathlib.Omega.{arith}
use borrow.Author.Tests.{ltb-true, eqb-true, eqb-false}
use lib.Dec.{eqb, ltb, lit<}
use lib.ListN.{length, length-append}
use lib.Seq.{append_snoc}
use Rattle.kinds.specs.Kinds.{content}
use Rattle.kinds.proofs.ContentLaws.{content_number}
use Rattle.line.specs.Frame.{Mode, Class, mode_of, class_of, frame, agrees, judge, Acceptable}
use Rattle.line.specs.Frame.Mode.{plain, summed}
use Rattle.line.specs.Frame.Class.{dle, etx, sum, other}
use Rattle.line.specs.Table.{State, Event, Step, capacity, pending, go, refuse, verdict, ends, join, row, next, after, events, skipped, total, accepts, refuses}
use Rattle.line.specs.Table.State.{W, WD, F, FD, C0, C1, E, ED}
use Rattle.line.specs.Table.Event.{nothing, message, refusal}
use Rattle.line.specs.Record.{Rec, Kept, id_of, ModeOk, IdOk, SizeOk, PlaceOk, Fit, Possible, update, state_of, stepped}
use Rattle.line.specs.Record.Kept.{k_43, k_46, k_4a, k_4b, k_eb}
use Rattle.line.specs.Record.Place.{at}
use Rattle.line.proofs.Latest.{update_same, update_other}
use Rattle.line.proofs.Account.{balanced}
use Rattle.line.proofs.Reading.{events_append}
use Rattle.line.proofs.Resync.{after_append}

-- an event of the table: a message is acceptable and closes its frame's length; a refusal has a number above 3
abbrev pub Fine : Mode → Event → Type 0
Fine m nothing = Unit {0}
Fine m (message id d n) = Acceptable id d × (n ≡ length (frame m id d))
Fine m (refusal v id n) = 3 < v

holds : {m : Mode} {s : State} → ModeOk m s → IdOk s → SizeOk s → PlaceOk m s
holds a b c = record { mode = a; identifier = b; size = c }

pub w_ok : {m : Mode} → PlaceOk m W
w_ok = holds tt tt tt

open_ok : {m : Mode} (b : ℕ) → class_of b ≡ other → PlaceOk m (F b [])
open_ok b e = holds tt e (omega arith)

abbrev pub Sound : Mode → Step → Type 0
Sound m t = PlaceOk m t.to × Fine m t.event

join_sound : (m : Mode) (id : ℕ) (d : List ℕ) (b n : ℕ) → class_of id ≡ other → Sound m (join id d b n)
join_sound m id d b n h = by (ltb (length d) capacity) refl
  where
    by : (t : Bool) → ltb (length d) capacity ≡ t → Sound m (cond t (go (F id (d ++ (b ∷ [])))) (refuse 4 id n))
    by true e = (holds tt h (simp length-append (omega (arith, ltb-true (length d) capacity e))), tt)
    by false e = (w_ok, lit< tt)

ends_sound : (m : Mode) (v id : ℕ) (d : List ℕ) (n : ℕ) → (v ≡ 0 → Acceptable id d) → ((v ≡ 0 → ⊥) → 3 < v)
    → n ≡ length (frame m id d) → Sound m (ends v id d n)
ends_sound m v id d n g b l = (w_ok, by (eqb v 0) refl)
  where
    by : (t : Bool) → eqb v 0 ≡ t → Fine m (verdict t v id d n)
    by true e = (g (eqb-true v 0 e), l)
    by false e = b (eqb-false v 0 e)

content_ends : (m : Mode) (id : ℕ) (d : List ℕ) (n : ℕ) → n ≡ length (frame m id d) → Sound m (ends (content id d) id d n)
content_ends m id d n l = ends_sound m (content id d) id d n (λ e. e) (λ f. omega (arith, (content_number id d f).0)) l

plain_ends : (id : ℕ) (d : List ℕ) → Sound plain (ends (content id d) id d (pending (FD id d) + 1))
plain_ends id d = content_ends plain id d _ (simp length-append (omega arith))

summed_ends : (id : ℕ) (d : List ℕ) (c1 c2 : ℕ) → Sound summed (ends (judge summed id d c1 c2) id d (pending (ED id d c1 c2) + 1))
summed_ends id d c1 c2 = by (agrees id d c1 c2)
  where
    by : (t : Bool) → Sound summed (ends (cond t (content id d) 9) id d (pending (ED id d c1 c2) + 1))
    by true = content_ends summed id d _ (simp length-append (omega arith))
    by false = (w_ok, lit< tt)

-- every row of the table keeps the place possible
pub sound : (m : Mode) (s : State) (b : ℕ) (k : Class) → class_of b ≡ k → PlaceOk m s → Sound m (row m s k b)
sound m W b dle e h = (holds tt tt tt, tt)
sound m W b etx e h = (w_ok, tt)
sound m W b sum e h = (w_ok, tt)
sound m W b other e h = (w_ok, tt)
sound m WD b dle e h = (w_ok, tt)
sound m WD b etx e h = (w_ok, tt)
sound m WD b sum e h = (w_ok, tt)
sound m WD b other e h = (open_ok b e, tt)
sound m (F id d) b dle e h = (holds tt h.identifier h.size, tt)
sound m (F id d) b etx e h = join_sound m id d b _ h.identifier
sound m (F id d) b sum e h = join_sound m id d b _ h.identifier
sound m (F id d) b other e h = join_sound m id d b _ h.identifier
sound m (FD id d) b dle e h = join_sound m id d b _ h.identifier
sound plain (FD id d) b etx e h = plain_ends id d
sound summed (FD id d) b etx e h = (w_ok, lit< tt)
sound plain (FD id d) b sum e h = (w_ok, lit< tt)
sound summed (FD id d) b sum e h = (holds refl h.identifier h.size, tt)
sound m (FD id d) b other e h = (open_ok b e, lit< tt)
sound m (C0 id d) b k e h = (holds h.mode h.identifier h.size, tt)
sound m (C1 id d c1) b k e h = (holds h.mode h.identifier h.size, tt)
sound m (E id d c1 c2) b dle e h = (holds h.mode h.identifier h.size, tt)
sound m (E id d c1 c2) b etx e h = (w_ok, lit< tt)
sound m (E id d c1 c2) b sum e h = (w_ok, lit< tt)
sound m (E id d c1 c2) b other e h = (w_ok, lit< tt)
sound m (ED id d c1 c2) b dle e h = (w_ok, lit< tt)
sound plain (ED id d c1 c2) b etx e h = let q : plain ≡ summed = h.mode in let z : ◌≡◌ {A = ℕ} 0 1 = cc in absurd (omega arith)
sound summed (ED id d c1 c2) b etx e h = summed_ends id d c1 c2
sound m (ED id d c1 c2) b sum e h = (w_ok, lit< tt)
sound m (ED id d c1 c2) b other e h = (open_ok b e, lit< tt)

pub place_ok : (m : Mode) (s : State) (bs : List ℕ) → PlaceOk m s → PlaceOk m (after m s bs)
place_ok m s [] h = h
place_ok m s (b ∷ bs) h = place_ok m (next m s b).to bs (sound m s b (class_of b) refl h).0

-- the latest message of a kind among events
abbrev pub stood : Kept → Option (List ℕ) → List Event → Option (List ℕ)
stood k o [] = o
stood k o (e ∷ es) = stood k (update k e o) es

pub stood_append : (k : Kept) (o : Option (List ℕ)) (xs ys : List Event) → stood k o (xs ++ ys) ≡ stood k (stood k o xs) ys
stood_append k o [] ys = refl
stood_append k o (x ∷ xs) ys = stood_append k (update k x o) xs ys

pub total_append : (f : Event → ℕ) (xs ys : List Event) → total f (xs ++ ys) ≡ total f xs + total f ys
total_append f [] ys = omega arith
total_append f (x ∷ xs) ys = omega (arith, total_append f xs ys)

pub skipped_append : (m : Mode) (s : State) (xs ys : List ℕ) → skipped m s (xs ++ ys) ≡ skipped m s xs + skipped m (after m s xs) ys
skipped_append m s [] ys = omega arith
skipped_append m s (x ∷ xs) ys = omega (arith, skipped_append m (next m s x).to xs ys)

-- the record that mirrors the table after these bytes
abbrev pub mirror : ℕ → List ℕ → Rec
mirror m bs =
    record {
      mode = m;
      place = at (after (mode_of m) W bs);
      fed = length bs;
      accepted = total accepts (events (mode_of m) W bs);
      refused = total refuses (events (mode_of m) W bs);
      outside = skipped (mode_of m) W bs;
      pending = pending (after (mode_of m) W bs);
      latest = λ k. stood k none (events (mode_of m) W bs);
    }

total_snoc : (f : Event → ℕ) (m : Mode) (bs : List ℕ) (b : ℕ)
    → total f (events m W bs) + f (next m (after m W bs) b).event ≡ total f (events m W (bs ++ (b ∷ [])))
total_snoc f m bs b =
    rw (events_append m W bs (b ∷ []), total_append f (events m W bs) ((next m (after m W bs) b).event ∷ [])) (omega arith)

stood_snoc : (k : Kept) (m : Mode) (bs : List ℕ) (b : ℕ)
    → update k (next m (after m W bs) b).event (stood k none (events m W bs)) ≡ stood k none (events m W (bs ++ (b ∷ [])))
stood_snoc k m bs b =
    rw (events_append m W bs (b ∷ []), stood_append k none (events m W bs) ((next m (after m W bs) b).event ∷ []))

pub stepped_mirror : (m : ℕ) (bs : List ℕ) (b : ℕ) → stepped (mirror m bs) b ≡ mirror m (bs ++ (b ∷ []))
stepped_mirror m bs b =
    λ i.
    record {
      mode = m;
      place = at (p i);
      fed = l i;
      accepted = total_snoc accepts (mode_of m) bs b i;
      refused = total_snoc refuses (mode_of m) bs b i;
      outside = o i;
      pending = pending (p i);
      latest = λ k. stood_snoc k (mode_of m) bs b i;
    }
  where
    p : (next (mode_of m) (after (mode_of m) W bs) b).to ≡ after (mode_of m) W (bs ++ (b ∷ []))
    p = sym (after_append (mode_of m) W bs (b ∷ []))

    l : length bs + 1 ≡ length (bs ++ (b ∷ []))
    l = simp length-append (omega arith)

    o : skipped (mode_of m) W bs + (next (mode_of m) (after (mode_of m) W bs) b).outside ≡ skipped (mode_of m) W (bs ++ (b ∷ []))
    o = omega (arith, skipped_append (mode_of m) W bs (b ∷ []))

-- a step keeps the record possible
kept : (m : Mode) (k : Kept) (e : Event) (o : Option (List ℕ)) → Fine m e → Fit (id_of k) o → Fit (id_of k) (update k e o)
kept m k nothing o f g = g
kept m k (message id d n) o f g = by (eqb id (id_of k)) refl
  where
    by : (t : Bool) → eqb id (id_of k) ≡ t → Fit (id_of k) (update k (message id d n) o)
    by true e =
        let q = eqb-true id (id_of k) e in
        subst⁻¹ (Fit (id_of k)) (update_same k id d n o q) (subst (λ i. Acceptable i d) q f.0)
    by false e = subst⁻¹ (Fit (id_of k)) (update_other k id d n o (eqb-false id (id_of k) e)) g
kept m k (refusal v id n) o f g = g

pub keeps_possible : (r : Rec) (b : ℕ) → Possible r → Possible (stepped r b)
keeps_possible r b p =
    record {
      place = tt;
      mode = w.0.mode;
      identifier = w.0.identifier;
      size = w.0.size;
      pending = refl;
      fed = omega (arith, p.fed, p.pending, balanced m s b (class_of b) refl);
      latest_43 = kept m k_43 (next m s b).event (r.latest k_43) w.1 p.latest_43;
      latest_46 = kept m k_46 (next m s b).event (r.latest k_46) w.1 p.latest_46;
      latest_4a = kept m k_4a (next m s b).event (r.latest k_4a) w.1 p.latest_4a;
      latest_4b = kept m k_4b (next m s b).event (r.latest k_4b) w.1 p.latest_4b;
      latest_eb = kept m k_eb (next m s b).event (r.latest k_eb) w.1 p.latest_eb;
    }
  where
    m : Mode
    m = mode_of r.mode

    s : State
    s = state_of r.place

    w : Sound m (next m s b)
    w = sound m s b (class_of b) refl (holds p.mode p.identifier p.size)

-- question 2 is always yes of it
from_possible : (m : ℕ) (before bs : List ℕ) → Possible (mirror m before) → Possible (mirror m (before ++ bs))
from_possible m before [] p = rw append-nil p
from_possible m before (b ∷ bs) p =
    rw (← append_snoc before b bs)
    (from_possible m (before ++ (b ∷ [])) bs (subst Possible (stepped_mirror m before b) (keeps_possible (mirror m before) b p)))

pub is_possible : (m : ℕ) (bs : List ℕ) → Possible (mirror m bs)
is_possible m bs =
    from_possible m [] bs
    (record {
      place = tt;
      mode = tt;
      identifier = tt;
      size = tt;
      pending = refl;
      fed = refl;
      latest_43 = tt;
      latest_46 = tt;
      latest_4a = tt;
      latest_4b = tt;
      latest_eb = tt;
    })
