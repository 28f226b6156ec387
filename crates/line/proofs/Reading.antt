-- The frame of an acceptable message, read while waiting: no event before its last byte, and the message there.
use mathlib.Core.List.{List, [], ◌∷◌, ◌++◌, append_assoc, append-nil}
use mathlib.Core.Path.{◌≡◌, refl, ap, ◌∙◌, subst⁻¹}
use Prim.Native.Nat.{ℕ, suc, ◌+◌, ◌≤◌, ◌<◌}
use native.Mathlib.Omega.{arith}
use borrow.Author.Tests.{lt-ltb, eq-eqb}
use lib.ListN.{length, length-append, replicate}
use lib.Seq.{append_snoc}
use Rattle.stuffing.specs.Stuffing.{DLE, stuffed}
use Rattle.stuffing.proofs.StuffingLaws.{stuffed_nil}
use Rattle.checksum.specs.Checksum.{c1_of, c2_of}
use Rattle.kinds.specs.Kinds.{content}
use Rattle.kinds.proofs.ContentLaws.{content_usable, content_length}
use Rattle.line.specs.Frame.{ETX, Mode, Class, class_of, sum_field, frame, judge, Acceptable}
use Rattle.line.specs.Frame.Mode.{plain, summed}
use Rattle.line.specs.Frame.Class.{dle, etx, sum, other}
use Rattle.line.specs.Table.{State, Event, Step, capacity, pending, go, verdict, ends, join, row, next, after, events}
use Rattle.line.specs.Table.State.{W, WD, F, FD, ED}
use Rattle.line.specs.Table.Event.{nothing, message}
use Rattle.line.proofs.Classes.{class_dle, class_etx, class_other, doubled, stuffed_by}

-- an acceptable message has a usable identifier and fits a frame
pub usable : (id : ℕ) (d : List ℕ) → Acceptable id d → class_of id ≡ other
usable id d a = let u = content_usable id d a in class_other id u.0 u.1 u.2

pub fits : (id : ℕ) (d : List ℕ) → Acceptable id d → length d ≤ capacity
fits id d a = content_length id d a

-- bytes with no event and none outside
pub data Quiet (m : Mode) : State → List ℕ → State → Type 0 where
  still : {s : State} → Quiet m s [] s
  by : {s t z : State} {b : ℕ} {bs : List ℕ} → next m s b ≡ go t → Quiet m t bs z → Quiet m s (b ∷ bs) z

pub ◌then◌ : {m : Mode} {s t z : State} {xs ys : List ℕ} → Quiet m s xs t → Quiet m t ys z → Quiet m s (xs ++ ys) z
◌then◌ still q = q
◌then◌ (by e p) q = by e (◌then◌ p q)

pub quiet_events : {m : Mode} {s z : State} {xs : List ℕ} → Quiet m s xs z → (ys : List ℕ)
    → events m s (xs ++ ys) ≡ replicate (length xs) nothing ++ events m z ys
quiet_events still ys = refl
quiet_events {m} (by {bs = bs} e p) ys =
    ap (λ (t : Step). t.event ∷ events m t.to (bs ++ ys)) e ∙ ap (λ (l : List Event). nothing ∷ l) (quiet_events p ys)

-- a byte of a known class
pub is : (m : Mode) (s : State) (b : ℕ) {k : Class} {t : Step} → class_of b ≡ k → row m s k b ≡ t → next m s b ≡ t
is m s b {t} e h = subst⁻¹ (λ k. row m s k b ≡ t) e h

room : (id : ℕ) (d : List ℕ) (b n : ℕ) → length d < capacity → join id d b n ≡ go (F id (d ++ (b ∷ [])))
room id d b n h = rw (lt-ltb (length d) capacity h)

data_quiet : (m : Mode) (id : ℕ) (x d : List ℕ) → length d + length x ≤ capacity → Quiet m (F id d) (stuffed x) (F id (d ++ x))
data_quiet m id [] d h = rw (stuffed_nil, append-nil) still
data_quiet m id (b ∷ x) d h =
    rw (stuffed_by b x (class_of b) refl, ← append_snoc d b x)
    (one (class_of b) refl (room id d b _ (omega arith)) (room id d b _ (omega arith))
    (data_quiet m id x (d ++ (b ∷ [])) (simp length-append (omega arith))))
  where
    z : State
    z = F id (d ++ (b ∷ []))

    one : (k : Class) → class_of b ≡ k → join id d b (pending (F id d) + 1) ≡ go z → join id d b (pending (FD id d) + 1) ≡ go z
        → Quiet m z (stuffed x) (F id (d ++ (b ∷ []) ++ x))
        → Quiet m (F id d) (doubled k b ++ stuffed x) (F id (d ++ (b ∷ []) ++ x))
    one dle e j jd q = by (is m (F id d) b e refl) (by (is m (FD id d) b e jd) q)
    one etx e j jd q = by (is m (F id d) b e j) q
    one sum e j jd q = by (is m (F id d) b e j) q
    one other e j jd q = by (is m (F id d) b e j) q

-- the state before the ETX
abbrev pub ready : Mode → ℕ → List ℕ → State
ready plain id d = FD id d
ready summed id d = ED id d (c1_of id d) (c2_of id d)

closing_quiet : (m : Mode) (id : ℕ) (d : List ℕ) → Quiet m (F id d) (sum_field m id d ++ (DLE ∷ [])) (ready m id d)
unfolding class_of
closing_quiet plain id d = by refl still
closing_quiet summed id d = by refl (by refl (by refl (by refl (by refl still))))

-- a frame but for its ETX
abbrev pub front : Mode → ℕ → List ℕ → List ℕ
front m id d = DLE ∷ id ∷ (stuffed d ++ (sum_field m id d ++ (DLE ∷ [])))

pub front_quiet : (m : Mode) (id : ℕ) (d : List ℕ) → Acceptable id d → Quiet m W (front m id d) (ready m id d)
front_quiet m id d a =
    by (is m W DLE class_dle refl)
    (by (is m WD id (usable id d a) refl)
    (◌then◌ (data_quiet m id d [] (omega (arith, fits id d a))) (closing_quiet m id d)))

pub front_length : (m : Mode) (id : ℕ) (d : List ℕ) → length (front m id d) + 1 ≡ length (frame m id d)
front_length m id d = simp length-append (omega arith)

pub whole : (m : Mode) (id : ℕ) (d ys : List ℕ) → frame m id d ++ ys ≡ front m id d ++ (ETX ∷ ys)
whole m id d ys = simp append_assoc

good_end : (v id : ℕ) (d : List ℕ) (n k : ℕ) → v ≡ 0 → n ≡ k → ends v id d n ≡ record { to = W; event = message id d k; outside = 0 }
good_end v id d n k e q = (λ i. record { to = W; event = verdict (eq-eqb v 0 e i) v id d (q i); outside = 0 })

summed_good : (id : ℕ) (d : List ℕ) → Acceptable id d → judge summed id d (c1_of id d) (c2_of id d) ≡ 0
summed_good id d a = rw (eq-eqb (c1_of id d) (c1_of id d) refl, eq-eqb (c2_of id d) (c2_of id d) refl) a

pub delivered : (m : Mode) (id : ℕ) (d : List ℕ) → Acceptable id d
    → next m (ready m id d) ETX ≡ record { to = W; event = message id d (length (frame m id d)); outside = 0 }
delivered plain id d a =
    is plain (FD id d) ETX class_etx (good_end (content id d) id d _ _ a (simp length-append (omega arith)))
delivered summed id d a =
    is summed (ready summed id d) ETX class_etx (good_end _ id d _ _ (summed_good id d a) (simp length-append (omega arith)))

-- from W the whole frame of an acceptable message
pub read_events : (m : Mode) (id : ℕ) (d : List ℕ) → Acceptable id d → (ys : List ℕ)
    → events m W (frame m id d ++ ys)
    ≡ replicate (length (front m id d)) nothing ++ (message id d (length (frame m id d)) ∷ events m W ys)
read_events m id d a ys =
    ap (events m W) (whole m id d ys)
    ∙ quiet_events (front_quiet m id d a) (ETX ∷ ys)
    ∙ ap (λ (t : Step). replicate (length (front m id d)) nothing ++ (t.event ∷ events m t.to ys)) (delivered m id d a)

pub events_append : (m : Mode) (s : State) (xs ys : List ℕ) → events m s (xs ++ ys) ≡ events m s xs ++ events m (after m s xs) ys
events_append m s [] ys = refl
events_append m s (x ∷ xs) ys = ap (λ (l : List Event). (next m s x).event ∷ l) (events_append m (next m s x).to xs ys)

pub length_events : (m : Mode) (s : State) (xs : List ℕ) → length (events m s xs) ≡ length xs
length_events m s [] = refl
length_events m s (x ∷ xs) = ap suc (length_events m (next m s x).to xs)
