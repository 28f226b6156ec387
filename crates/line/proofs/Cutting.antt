-- The pieces: concatenated they are the bytes, in order they are the events, and an accepted one is a frame.
use mathlib.Core.Bool.{Bool, true, false, cond, ◌&&◌}
use mathlib.Core.List.{List, [], ◌∷◌, ◌++◌, append_assoc, append-nil}
use mathlib.Core.Path.{◌≡◌, refl, sym, ap, ◌∙◌, subst}
use Prim.Native.Nat.{ℕ, ◌+◌, ◌≤◌}
use native.Mathlib.Omega.{arith}
use borrow.Author.Tests.{eqb-true}
use lib.Dec.{eqb, ltb}
use lib.ListN.{length, take, drop, length-append, take-append-drop, drop_of_length-le}
use lib.Seq.{append_snoc, drop_at, length-take-le, take_all}
use Rattle.stuffing.specs.Stuffing.{DLE, stuffed}
use Rattle.stuffing.proofs.StuffingLaws.{stuffed_nil}
use Rattle.checksum.specs.Checksum.{c1_of, c2_of}
use Rattle.kinds.specs.Kinds.{content}
use Rattle.line.specs.Frame.{SUM, Mode, Class, class_of, frame, agrees, judge}
use Rattle.line.specs.Frame.Mode.{plain, summed}
use Rattle.line.specs.Frame.Class.{dle, etx, sum, other}
use Rattle.line.specs.Table.{State, Event, Step, capacity, by_event, pending, go, refuse, verdict, ends, join, row, next, after, events, skipped, total, accepts, refuses}
use Rattle.line.specs.Table.State.{W, WD, F, FD, C0, C1, E, ED}
use Rattle.line.specs.Table.Event.{nothing, message, refusal}
use Rattle.line.specs.Pieces.{Piece, bytes_in, concatenated, closes, piece_of, closed, held_after, event_in, events_in, raised, AllFramed, outside_in, accepted_in, refused_in, pending_in, sum_of}
use Rattle.line.specs.Pieces.Piece.{outside, accepted, refused}
use Rattle.line.proofs.Classes.{dle_is, etx_is, sum_is, doubled, stuffed_snoc}
use Rattle.line.proofs.Account.{cond_both, balanced}
use Rattle.line.proofs.Mirror.{sound}
use Rattle.line.specs.Record.{PlaceOk}

-- the bytes of the open frame
abbrev pub open_bytes : State → List ℕ
open_bytes W = []
open_bytes WD = DLE ∷ []
open_bytes (F id d) = DLE ∷ id ∷ stuffed d
open_bytes (FD id d) = DLE ∷ id ∷ (stuffed d ++ (DLE ∷ []))
open_bytes (C0 id d) = DLE ∷ id ∷ (stuffed d ++ (DLE ∷ SUM ∷ []))
open_bytes (C1 id d c1) = DLE ∷ id ∷ (stuffed d ++ (DLE ∷ SUM ∷ c1 ∷ []))
open_bytes (E id d c1 c2) = DLE ∷ id ∷ (stuffed d ++ (DLE ∷ SUM ∷ c1 ∷ c2 ∷ []))
open_bytes (ED id d c1 c2) = DLE ∷ id ∷ (stuffed d ++ (DLE ∷ SUM ∷ c1 ∷ c2 ∷ DLE ∷ []))

pub length_open : (s : State) → length (open_bytes s) ≡ pending s
length_open W = refl
length_open WD = refl
length_open (F id d) = omega arith
length_open (FD id d) = simp length-append (omega arith)
length_open (C0 id d) = simp length-append (omega arith)
length_open (C1 id d c1) = simp length-append (omega arith)
length_open (E id d c1 c2) = simp length-append (omega arith)
length_open (ED id d c1 c2) = simp length-append (omega arith)

-- the bytes held when b has come
abbrev pub held : State → ℕ → List ℕ
held s b = open_bytes s ++ (b ∷ [])

pub length_held : (s : State) (b : ℕ) → length (held s b) ≡ pending s + 1
length_held s b = length-append (open_bytes s) (b ∷ []) ∙ ap (λ n. n + 1) (length_open s)

-- what a step leaves of them is the open frame
abbrev Leaves : State → ℕ → Step → Type 0
Leaves s b t = drop (closes t) (held s b) ≡ open_bytes t.to

all_closed : (s : State) (b n : ℕ) → pending s + 1 ≤ n → drop n (held s b) ≡ []
all_closed s b n h =
    let l : length (held s b) ≤ n = omega (arith, length_held s b) in
    drop_of_length-le (held s b) l

refuse_leaves : (s : State) (b v id : ℕ) → Leaves s b (refuse v id (pending s + 1))
refuse_leaves s b v id = all_closed s b (0 + (pending s + 1) + 0) (omega arith)

ends_leaves : (s : State) (b v id : ℕ) (d : List ℕ) → Leaves s b (ends v id d (pending s + 1))
ends_leaves s b v id d = by (eqb v 0)
  where
    by : (t : Bool) → Leaves s b (record { to = W; event = verdict t v id d (pending s + 1); outside = 0 })
    by true = all_closed s b (pending s + 1 + 0 + 0) (omega arith)
    by false = all_closed s b (0 + (pending s + 1) + 0) (omega arith)

join_leaves : (s : State) (id : ℕ) (d : List ℕ) (b : ℕ) → held s b ≡ open_bytes (F id (d ++ (b ∷ [])))
    → Leaves s b (join id d b (pending s + 1))
join_leaves s id d b e =
    cond_both (Leaves s b) (ltb (length d) capacity) (go (F id (d ++ (b ∷ [])))) (refuse 4 id (pending s + 1)) e
    (refuse_leaves s b 4 id)

-- DLE b behind an open frame opens a new one
reopen_leaves : (p : List ℕ) (n b : ℕ) → length p ≡ n → drop (0 + n + 0) (p ++ (DLE ∷ b ∷ [])) ≡ open_bytes (F b [])
reopen_leaves p n b e = drop_at p (DLE ∷ b ∷ []) (0 + n + 0) (omega arith) ∙ ap (λ l. DLE ∷ b ∷ l) (sym stuffed_nil)

-- the same place, one byte further
behind : (id : ℕ) (d : List ℕ) (x : List ℕ) (b : ℕ) → DLE ∷ id ∷ (stuffed d ++ x) ++ (b ∷ []) ≡ DLE ∷ id ∷ (stuffed d ++ (x ++ (b ∷ [])))
behind id d x b = ap (λ l. DLE ∷ id ∷ l) (append_assoc (stuffed d) x (b ∷ []))

f_held : (id : ℕ) (d : List ℕ) (b : ℕ) (k : Class) → class_of b ≡ k → (b ∷ []) ≡ doubled k b
    → held (F id d) b ≡ open_bytes (F id (d ++ (b ∷ [])))
f_held id d b k e q = ap (λ l. DLE ∷ id ∷ l) (ap (λ l. stuffed d ++ l) q ∙ sym (stuffed_snoc d b k e))

fd_held : (id : ℕ) (d : List ℕ) (b : ℕ) → class_of b ≡ dle → held (FD id d) b ≡ open_bytes (F id (d ++ (b ∷ [])))
fd_held id d b e =
    behind id d (DLE ∷ []) b
    ∙ ap (λ x. DLE ∷ id ∷ (stuffed d ++ (x ∷ b ∷ []))) (sym (dle_is b e))
    ∙ ap (λ l. DLE ∷ id ∷ l) (sym (stuffed_snoc d b dle e))

pub leaves : (m : Mode) (s : State) (b : ℕ) (k : Class) → class_of b ≡ k → Leaves s b (row m s k b)
leaves m W b dle e = ap (λ x. x ∷ []) (dle_is b e)
leaves m W b etx e = refl
leaves m W b sum e = refl
leaves m W b other e = refl
leaves m WD b dle e = refl
leaves m WD b etx e = refl
leaves m WD b sum e = refl
leaves m WD b other e = ap (λ l. DLE ∷ b ∷ l) (sym stuffed_nil)
leaves m (F id d) b dle e = ap (λ x. DLE ∷ id ∷ (stuffed d ++ (x ∷ []))) (dle_is b e)
leaves m (F id d) b etx e = join_leaves (F id d) id d b (f_held id d b etx e refl)
leaves m (F id d) b sum e = join_leaves (F id d) id d b (f_held id d b sum e refl)
leaves m (F id d) b other e = join_leaves (F id d) id d b (f_held id d b other e refl)
leaves m (FD id d) b dle e = join_leaves (FD id d) id d b (fd_held id d b e)
leaves plain (FD id d) b etx e = ends_leaves (FD id d) b (judge plain id d 0 0) id d
leaves summed (FD id d) b etx e = refuse_leaves (FD id d) b 6 id
leaves plain (FD id d) b sum e = refuse_leaves (FD id d) b 7 id
leaves summed (FD id d) b sum e =
    behind id d (DLE ∷ []) b ∙ ap (λ x. DLE ∷ id ∷ (stuffed d ++ (DLE ∷ x ∷ []))) (sum_is b e)
leaves m (FD id d) b other e =
    ap (drop (0 + pending (F id d) + 0)) (behind id d (DLE ∷ []) b) ∙ reopen_leaves (DLE ∷ id ∷ stuffed d) (pending (F id d)) b (omega arith)
leaves m (C0 id d) b k e = behind id d (DLE ∷ SUM ∷ []) b
leaves m (C1 id d c1) b k e = behind id d (DLE ∷ SUM ∷ c1 ∷ []) b
leaves m (E id d c1 c2) b dle e =
    behind id d (DLE ∷ SUM ∷ c1 ∷ c2 ∷ []) b
    ∙ ap (λ x. DLE ∷ id ∷ (stuffed d ++ (DLE ∷ SUM ∷ c1 ∷ c2 ∷ x ∷ []))) (dle_is b e)
leaves m (E id d c1 c2) b etx e = refuse_leaves (E id d c1 c2) b 8 id
leaves m (E id d c1 c2) b sum e = refuse_leaves (E id d c1 c2) b 8 id
leaves m (E id d c1 c2) b other e = refuse_leaves (E id d c1 c2) b 8 id
leaves m (ED id d c1 c2) b dle e = refuse_leaves (ED id d c1 c2) b 8 id
leaves m (ED id d c1 c2) b etx e = ends_leaves (ED id d c1 c2) b (judge summed id d c1 c2) id d
leaves m (ED id d c1 c2) b sum e = refuse_leaves (ED id d c1 c2) b 8 id
leaves m (ED id d c1 c2) b other e =
    ap (drop (0 + pending (E id d c1 c2) + 0))
    (behind id d (DLE ∷ SUM ∷ c1 ∷ c2 ∷ DLE ∷ []) b
    ∙ ap (λ l. DLE ∷ id ∷ l) (sym (append_assoc (stuffed d) (DLE ∷ SUM ∷ c1 ∷ c2 ∷ []) (DLE ∷ b ∷ []))))
    ∙ reopen_leaves (open_bytes (E id d c1 c2)) (pending (E id d c1 c2)) b (length_open (E id d c1 c2))

-- a step with an event has nothing outside
abbrev Neat : Step → Type 0
Neat t = by_event t.event (Unit {0}) (λ id d n. t.outside ≡ 0) (λ v id n. t.outside ≡ 0)

ends_neat : (v id : ℕ) (d : List ℕ) (n : ℕ) → Neat (ends v id d n)
ends_neat v id d n = by (eqb v 0)
  where
    by : (t : Bool) → Neat (record { to = W; event = verdict t v id d n; outside = 0 })
    by true = refl
    by false = refl

join_neat : (id : ℕ) (d : List ℕ) (b n : ℕ) → Neat (join id d b n)
join_neat id d b n = cond_both Neat (ltb (length d) capacity) (go (F id (d ++ (b ∷ [])))) (refuse 4 id n) tt refl

neat : (m : Mode) (s : State) (b : ℕ) (k : Class) → Neat (row m s k b)
neat m W b dle = tt
neat m W b etx = tt
neat m W b sum = tt
neat m W b other = tt
neat m WD b dle = tt
neat m WD b etx = tt
neat m WD b sum = tt
neat m WD b other = tt
neat m (F id d) b dle = tt
neat m (F id d) b etx = join_neat id d b _
neat m (F id d) b sum = join_neat id d b _
neat m (F id d) b other = join_neat id d b _
neat m (FD id d) b dle = join_neat id d b _
neat plain (FD id d) b etx = ends_neat (judge plain id d 0 0) id d _
neat summed (FD id d) b etx = refl
neat plain (FD id d) b sum = refl
neat summed (FD id d) b sum = tt
neat m (FD id d) b other = refl
neat m (C0 id d) b k = tt
neat m (C1 id d c1) b k = tt
neat m (E id d c1 c2) b dle = tt
neat m (E id d c1 c2) b etx = refl
neat m (E id d c1 c2) b sum = refl
neat m (E id d c1 c2) b other = refl
neat m (ED id d c1 c2) b dle = refl
neat m (ED id d c1 c2) b etx = ends_neat (judge summed id d c1 c2) id d _
neat m (ED id d c1 c2) b sum = refl
neat m (ED id d c1 c2) b other = refl

-- a frame that ends and is accepted is the frame of its message
ends_framed : (m : Mode) (s : State) (b v id : ℕ) (d : List ℕ) → (v ≡ 0 → held s b ≡ frame m id d)
    → AllFramed m (piece_of (ends v id d (pending s + 1)) (held s b))
ends_framed m s b v id d f = by (eqb v 0) refl
  where
    by : (t : Bool) → eqb v 0 ≡ t
        → AllFramed m (piece_of (record { to = W; event = verdict t v id d (pending s + 1); outside = 0 }) (held s b))
    by true q = (take_all (pending s + 1 + 0 + 0) (held s b) (omega (arith, length_held s b)) ∙ f (eqb-true v 0 q), tt)
    by false q = (tt, tt)

join_framed : (m : Mode) (id : ℕ) (d : List ℕ) (b n : ℕ) (l : List ℕ) → AllFramed m (piece_of (join id d b n) l)
join_framed m id d b n l =
    cond_both (λ t. AllFramed m (piece_of t l)) (ltb (length d) capacity) (go (F id (d ++ (b ∷ [])))) (refuse 4 id n) tt (tt, tt)

both_true : (a b : Bool) → a && b ≡ true → (a ≡ true) × (b ≡ true)
both_true true b h = (refl, h)
both_true false b h = let z : ◌≡◌ {A = ℕ} 0 1 = cc in absurd (omega arith)

-- where questions 9 to 12 are yes, the sum is the message's
sum_agrees : (id : ℕ) (d : List ℕ) (c1 c2 : ℕ) → judge summed id d c1 c2 ≡ 0 → (c1 ≡ c1_of id d) × (c2 ≡ c2_of id d)
sum_agrees id d c1 c2 h = by (agrees id d c1 c2) refl h
  where
    by : (t : Bool) → agrees id d c1 c2 ≡ t → cond t (content id d) 9 ≡ 0
        → (c1 ≡ c1_of id d) × (c2 ≡ c2_of id d)
    by true q h =
        let w = both_true (eqb c1 (c1_of id d)) (eqb c2 (c2_of id d)) q in
        (eqb-true c1 (c1_of id d) w.0, eqb-true c2 (c2_of id d) w.1)
    by false q h = absurd (omega arith)

plain_frame : (id : ℕ) (d : List ℕ) (b : ℕ) → class_of b ≡ etx → held (FD id d) b ≡ frame plain id d
plain_frame id d b e = behind id d (DLE ∷ []) b ∙ ap (λ x. DLE ∷ id ∷ (stuffed d ++ (DLE ∷ x ∷ []))) (etx_is b e)

summed_frame : (id : ℕ) (d : List ℕ) (c1 c2 b : ℕ) → class_of b ≡ etx → judge summed id d c1 c2 ≡ 0
    → held (ED id d c1 c2) b ≡ frame summed id d
summed_frame id d c1 c2 b e h =
    let w = sum_agrees id d c1 c2 h in
    behind id d (DLE ∷ SUM ∷ c1 ∷ c2 ∷ DLE ∷ []) b
    ∙ (λ i. DLE ∷ id ∷ (stuffed d ++ (DLE ∷ SUM ∷ w.0 i ∷ w.1 i ∷ DLE ∷ etx_is b e i ∷ [])))

framed : (m : Mode) (s : State) (b : ℕ) (k : Class) → class_of b ≡ k → PlaceOk m s → AllFramed m (piece_of (row m s k b) (held s b))
framed m W b dle e h = tt
framed m W b etx e h = (tt, tt)
framed m W b sum e h = (tt, tt)
framed m W b other e h = (tt, tt)
framed m WD b dle e h = (tt, tt)
framed m WD b etx e h = (tt, tt)
framed m WD b sum e h = (tt, tt)
framed m WD b other e h = tt
framed m (F id d) b dle e h = tt
framed m (F id d) b etx e h = join_framed m id d b _ _
framed m (F id d) b sum e h = join_framed m id d b _ _
framed m (F id d) b other e h = join_framed m id d b _ _
framed m (FD id d) b dle e h = join_framed m id d b _ _
framed plain (FD id d) b etx e h = ends_framed plain (FD id d) b (content id d) id d (λ q. plain_frame id d b e)
framed summed (FD id d) b etx e h = (tt, tt)
framed plain (FD id d) b sum e h = (tt, tt)
framed summed (FD id d) b sum e h = tt
framed m (FD id d) b other e h = (tt, tt)
framed m (C0 id d) b k e h = tt
framed m (C1 id d c1) b k e h = tt
framed m (E id d c1 c2) b dle e h = tt
framed m (E id d c1 c2) b etx e h = (tt, tt)
framed m (E id d c1 c2) b sum e h = (tt, tt)
framed m (E id d c1 c2) b other e h = (tt, tt)
framed m (ED id d c1 c2) b dle e h = (tt, tt)
framed plain (ED id d c1 c2) b etx e h =
    let q : plain ≡ summed = h.mode in
    let z : ◌≡◌ {A = ℕ} 0 1 = cc in
    absurd (omega arith)
framed summed (ED id d c1 c2) b etx e h =
    ends_framed summed (ED id d c1 c2) b (judge summed id d c1 c2) id d (λ q. summed_frame id d c1 c2 b e q)
framed m (ED id d c1 c2) b sum e h = (tt, tt)
framed m (ED id d c1 c2) b other e h = (tt, tt)

-- what one step cuts off, of any step and any bytes
piece_joins : (t : Step) (l : List ℕ) → concatenated (piece_of t l) ++ drop (closes t) l ≡ l
piece_joins t l = by t.event (eqb t.outside 0) refl
  where
    n : Event → ℕ
    n e = accepts e + refuses e + t.outside

    cut : (k : ℕ) → take k l ++ [] ++ drop k l ≡ l
    cut k = ap (λ p. p ++ drop k l) (append-nil (take k l)) ∙ take-append-drop k l

    by : (e : Event) (z : Bool) → eqb t.outside 0 ≡ z
        → concatenated
        (by_event e (cond z [] (outside (take (n e) l) ∷ [])) (λ id d k. accepted id d (take (n e) l) ∷ [])
        (λ v id k. refused v id (take (n e) l) ∷ [])) ++ drop (n e) l ≡ l
    by nothing true q =
        let z : n nothing ≡ 0 = omega (arith, eqb-true t.outside 0 q) in
        ap (λ k. drop k l) z
    by nothing false q = cut (n nothing)
    by (message id d k) z q = cut (n (message id d k))
    by (refusal v id k) z q = cut (n (refusal v id k))

pub joined_append : (xs ys : List Piece) → concatenated (xs ++ ys) ≡ concatenated xs ++ concatenated ys
joined_append [] ys = refl
joined_append (x ∷ xs) ys = ap (λ l. bytes_in x ++ l) (joined_append xs ys) ∙ sym (append_assoc (bytes_in x) (concatenated xs) (concatenated ys))

pub closed_joins : (m : Mode) (s : State) (h bs : List ℕ) → concatenated (closed m s h bs) ++ held_after m s h bs ≡ h ++ bs
closed_joins m s h [] = sym (append-nil h)
closed_joins m s h (b ∷ bs) =
    ap (λ l. l ++ held_after m t.to left bs) (joined_append (piece_of t all) (closed m t.to left bs))
    ∙ append_assoc (concatenated (piece_of t all)) (concatenated (closed m t.to left bs)) (held_after m t.to left bs)
    ∙ ap (λ l. concatenated (piece_of t all) ++ l) (closed_joins m t.to left bs)
    ∙ sym (append_assoc (concatenated (piece_of t all)) left bs)
    ∙ ap (λ l. l ++ bs) (piece_joins t all)
    ∙ append_snoc h b bs
  where
    t : Step
    t = next m s b

    all : List ℕ
    all = h ++ (b ∷ [])

    left : List ℕ
    left = drop (closes t) all

-- the bytes held are always those of the open frame
pub closed_cons : (m : Mode) (s : State) (b : ℕ) (bs : List ℕ)
    → closed m s (open_bytes s) (b ∷ bs)
    ≡ piece_of (next m s b) (held s b) ++ closed m (next m s b).to (open_bytes (next m s b).to) bs
closed_cons m s b bs =
    ap (λ l. piece_of (next m s b) (held s b) ++ closed m (next m s b).to l bs) (leaves m s b (class_of b) refl)

pub held_open : (m : Mode) (s : State) (bs : List ℕ) → held_after m s (open_bytes s) bs ≡ open_bytes (after m s bs)
held_open m s [] = refl
held_open m s (b ∷ bs) =
    ap (λ l. held_after m (next m s b).to l bs) (leaves m s b (class_of b) refl) ∙ held_open m (next m s b).to bs

pub events_in_append : (xs ys : List Piece) → events_in (xs ++ ys) ≡ events_in xs ++ events_in ys
events_in_append [] ys = refl
events_in_append (x ∷ xs) ys =
    ap (λ l. event_in x ++ l) (events_in_append xs ys) ∙ sym (append_assoc (event_in x) (events_in xs) (events_in ys))

pub framed_append : (m : Mode) (xs ys : List Piece) → AllFramed m xs → AllFramed m ys → AllFramed m (xs ++ ys)
framed_append m [] ys p q = q
framed_append m (x ∷ xs) ys (p, ps) q = (p, framed_append m xs ys ps q)

-- a step closes no more than is held
closes_fit : (m : Mode) (s : State) (b : ℕ) → length (take (closes (next m s b)) (held s b)) ≡ closes (next m s b)
closes_fit m s b =
    length-take-le (closes (next m s b)) (held s b) (omega (arith, length_held s b, balanced m s b (class_of b) refl))

-- the piece of a step, where all that it closes is there
module _ (t : Step) (l : List ℕ) (long : length (take (closes t) l) ≡ closes t) (nt : Neat t) where
  -- a claim about it, by the cases of the event and of the bytes outside
  by_piece_lem : (P : Event → List Piece → Type 0) → ((n : ℕ) → t.outside ≡ 0 → P nothing [])
      → ((p : List ℕ) → length p ≡ t.outside → P nothing (outside p ∷ []))
      → ((id : ℕ) (d p : List ℕ) → t.outside ≡ 0 → P (message id d (length p)) (accepted id d p ∷ []))
      → ((v id : ℕ) (p : List ℕ) → t.outside ≡ 0 → P (refusal v id (length p)) (refused v id p ∷ []))
      → P t.event (piece_of t l)
  by_piece_lem P none out acc ref = go' t.event nt (eqb t.outside 0) refl long
    where
      n : Event → ℕ
      n e = accepts e + refuses e + t.outside

      go' : (e : Event) → by_event e (Unit {0}) (λ id d k. t.outside ≡ 0) (λ v id k. t.outside ≡ 0) → (z : Bool)
          → eqb t.outside 0 ≡ z → length (take (n e) l) ≡ n e
          → P e (by_event e (cond z [] (outside (take (n e) l) ∷ [])) (λ id d k. accepted id d (take (n e) l) ∷ [])
          (λ v id k. refused v id (take (n e) l) ∷ []))
      go' nothing q true h k = none 0 (eqb-true t.outside 0 h)
      go' nothing q false h k = out (take (n nothing) l) (omega arith)
      go' (message id d j) q z h k =
          let w : length (take (n (message id d j)) l) ≡ j = omega arith in
          subst (λ i. P (message id d i) (accepted id d (take (n (message id d j)) l) ∷ [])) w (acc id d (take (n (message id d j)) l) q)
      go' (refusal v id j) q z h k =
          let w : length (take (n (refusal v id j)) l) ≡ j = omega arith in
          subst (λ i. P (refusal v id i) (refused v id (take (n (refusal v id j)) l) ∷ [])) w (ref v id (take (n (refusal v id j)) l) q)

  piece_events : events_in (piece_of t l) ≡ raised (t.event ∷ [])
  piece_events =
      by_piece_lem (λ e xs. events_in xs ≡ raised (e ∷ [])) (λ n z. refl) (λ p z. refl) (λ id d p z. refl) (λ v id p z. refl)

  piece_accepted : sum_of accepted_in (piece_of t l) ≡ accepts t.event
  piece_accepted =
      by_piece_lem (λ e xs. sum_of accepted_in xs ≡ accepts e) (λ n z. refl) (λ p z. refl) (λ id d p z. omega arith) (λ v id p z. refl)

  piece_refused : sum_of refused_in (piece_of t l) ≡ refuses t.event
  piece_refused =
      by_piece_lem (λ e xs. sum_of refused_in xs ≡ refuses e) (λ n z. refl) (λ p z. refl) (λ id d p z. refl) (λ v id p z. omega arith)

  piece_outside : sum_of outside_in (piece_of t l) ≡ t.outside
  piece_outside =
      by_piece_lem (λ e xs. sum_of outside_in xs ≡ t.outside) (λ n z. omega arith) (λ p z. omega arith) (λ id d p z. omega arith)
      (λ v id p z. omega arith)

  piece_pending : sum_of pending_in (piece_of t l) ≡ 0
  piece_pending = by_piece_lem (λ e xs. sum_of pending_in xs ≡ 0) (λ n z. refl) (λ p z. refl) (λ id d p z. refl) (λ v id p z. refl)

-- of all the pieces that bytes close
pub sum_append : (f : Piece → ℕ) (xs ys : List Piece) → sum_of f (xs ++ ys) ≡ sum_of f xs + sum_of f ys
sum_append f [] ys = omega arith
sum_append f (x ∷ xs) ys = omega (arith, sum_append f xs ys)

raised_cons : (e : Event) (es : List Event) → raised (e ∷ es) ≡ raised (e ∷ []) ++ raised es
raised_cons e es = ap (λ l. l ++ raised es) (sym (append-nil (by_event e [] (λ id d n. e ∷ []) (λ v id n. e ∷ []))))

pub closed_events : (m : Mode) (s : State) (bs : List ℕ) → events_in (closed m s (open_bytes s) bs) ≡ raised (events m s bs)
closed_events m s [] = refl
closed_events m s (b ∷ bs) =
    ap events_in (closed_cons m s b bs)
    ∙ events_in_append (piece_of t (held s b)) (closed m t.to (open_bytes t.to) bs)
    ∙ (λ i. piece_events t (held s b) (closes_fit m s b) (neat m s b (class_of b)) i ++ closed_events m t.to bs i)
    ∙ sym (raised_cons t.event (events m t.to bs))
  where
    t : Step
    t = next m s b

pub closed_framed : (m : Mode) (s : State) (bs : List ℕ) → PlaceOk m s → AllFramed m (closed m s (open_bytes s) bs)
closed_framed m s [] h = tt
closed_framed m s (b ∷ bs) h =
    rw (closed_cons m s b bs)
    (framed_append m (piece_of t (held s b)) (closed m t.to (open_bytes t.to) bs) (framed m s b (class_of b) refl h)
    (closed_framed m t.to bs (sound m s b (class_of b) refl h).0))
  where
    t : Step
    t = next m s b

-- f of every step, added up
abbrev steps : (Step → ℕ) → Mode → State → List ℕ → ℕ
steps f m s [] = 0
steps f m s (b ∷ bs) = f (next m s b) + steps f m (next m s b).to bs

counted : (f : Piece → ℕ) (g : Step → ℕ)
    → ((t : Step) (l : List ℕ) → length (take (closes t) l) ≡ closes t → Neat t → sum_of f (piece_of t l) ≡ g t)
    → (m : Mode) (s : State) (bs : List ℕ) → sum_of f (closed m s (open_bytes s) bs) ≡ steps g m s bs
counted f g p m s [] = refl
counted f g p m s (b ∷ bs) =
    ap (sum_of f) (closed_cons m s b bs)
    ∙ sum_append f (piece_of t (held s b)) (closed m t.to (open_bytes t.to) bs)
    ∙ (λ i. p t (held s b) (closes_fit m s b) (neat m s b (class_of b)) i + counted f g p m t.to bs i)
  where
    t : Step
    t = next m s b

steps_events : (f : Event → ℕ) (m : Mode) (s : State) (bs : List ℕ) → steps (λ t. f t.event) m s bs ≡ total f (events m s bs)
steps_events f m s [] = refl
steps_events f m s (b ∷ bs) = ap (λ n. f (next m s b).event + n) (steps_events f m (next m s b).to bs)

steps_outside : (m : Mode) (s : State) (bs : List ℕ) → steps (λ t. t.outside) m s bs ≡ skipped m s bs
steps_outside m s [] = refl
steps_outside m s (b ∷ bs) = ap (λ n. (next m s b).outside + n) (steps_outside m (next m s b).to bs)

steps_none : (m : Mode) (s : State) (bs : List ℕ) → steps (λ t. 0) m s bs ≡ 0
steps_none m s [] = refl
steps_none m s (b ∷ bs) = ap (λ n. 0 + n) (steps_none m (next m s b).to bs)

pub closed_accepted : (m : Mode) (s : State) (bs : List ℕ) → sum_of accepted_in (closed m s (open_bytes s) bs) ≡ total accepts (events m s bs)
closed_accepted m s bs = counted accepted_in (λ t. accepts t.event) piece_accepted m s bs ∙ steps_events accepts m s bs

pub closed_refused : (m : Mode) (s : State) (bs : List ℕ) → sum_of refused_in (closed m s (open_bytes s) bs) ≡ total refuses (events m s bs)
closed_refused m s bs = counted refused_in (λ t. refuses t.event) piece_refused m s bs ∙ steps_events refuses m s bs

pub closed_outside : (m : Mode) (s : State) (bs : List ℕ) → sum_of outside_in (closed m s (open_bytes s) bs) ≡ skipped m s bs
closed_outside m s bs = counted outside_in (λ t. t.outside) piece_outside m s bs ∙ steps_outside m s bs

pub closed_pending : (m : Mode) (s : State) (bs : List ℕ) → sum_of pending_in (closed m s (open_bytes s) bs) ≡ 0
closed_pending m s bs = counted pending_in (λ t. 0) piece_pending m s bs ∙ steps_none m s bs
