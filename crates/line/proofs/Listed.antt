-- Where the bytes are listed: what holds of the pieces of any bytes, of those that a list of calls took, and between two bursts.
use mathlib.Core.List.{List, [], ◌∷◌, ◌++◌, append_assoc, append-nil, map}
use mathlib.Core.Path.{◌≡◌, refl, sym, ap, ◌∙◌}
use Prim.Native.Nat.{ℕ, ◌+◌, ◌≤◌}
use native.Mathlib.Omega.{arith}
use lib.ListN.{length, take, drop, drop_of_length-le}
use lib.Seq.{append_snoc, take_all}
use Rattle.line.specs.Frame.{ETX, Mode, mode_of}
use Rattle.line.specs.Table.{State, Step, next, after}
use Rattle.line.specs.Table.State.{W}
use Rattle.line.specs.Record.{Rec}
use Rattle.line.specs.Calls.{History, Trace, taken, Message, line, frames}
use Rattle.line.specs.Pieces.{Piece, concatenated, closes, piece_of, closed, held_after, pieces, events_in, outside_in, accepted_in, refused_in, pending_in, sum_of, Cut, Counted, whole, Between}
use Rattle.line.specs.Pieces.Piece.{pending as left, accepted}
use Rattle.line.proofs.Reading.{Quiet, front, front_quiet, delivered, usable}
use Rattle.line.proofs.Reading as Reading
use Rattle.line.proofs.Resync.{after_append, resync}
use Rattle.line.proofs.Mirror.{w_ok}
use Rattle.line.proofs.Each.{SoFar, so_far}
use Rattle.line.proofs.Cutting.{open_bytes, length_open, joined_append, events_in_append, framed_append, sum_append, closed_joins, held_open, closed_events, closed_framed, closed_accepted, closed_refused, closed_outside, closed_pending}

pub cut : (m : Mode) (bs : List ℕ) → Cut m bs
cut m bs =
    record {
      joins =
          joined_append (closed m W [] bs) (left p ∷ []) ∙ ap (λ l. concatenated (closed m W [] bs) ++ l) (append-nil p) ∙ closed_joins m W [] bs;
      events =
          events_in_append (closed m W [] bs) (left p ∷ []) ∙ append-nil (events_in (closed m W [] bs)) ∙ closed_events m W bs;
      framed = framed_append m (closed m W [] bs) (left p ∷ []) (closed_framed m W bs w_ok) (tt, tt);
    }
  where
    p : List ℕ
    p = held_after m W [] bs

pub counts : (m : ℕ) {h : History} {r : Rec} → Trace m h r → Counted (pieces (mode_of m) (taken h)) r
counts m {h} {r} t =
    record {
      accepted = sum accepted_in ∙ omega (arith, closed_accepted M W bs) ∙ sym (ap (λ x. x.accepted) s.mirrors);
      refused = sum refused_in ∙ omega (arith, closed_refused M W bs) ∙ sym (ap (λ x. x.refused) s.mirrors);
      outside = sum outside_in ∙ omega (arith, closed_outside M W bs) ∙ sym (ap (λ x. x.outside) s.mirrors);
      pending =
          sum pending_in
          ∙ omega (arith, closed_pending M W bs, ap length (held_open M W bs), length_open (after M W bs))
          ∙ sym (ap (λ x. x.pending) s.mirrors);
    }
  where
    M : Mode
    M = mode_of m

    bs : List ℕ
    bs = taken h

    s : SoFar m h r
    s = so_far m t

    sum : (f : Piece → ℕ) → sum_of f (pieces M bs) ≡ sum_of f (closed M W [] bs) + (f (left (held_after M W [] bs)) + 0)
    sum f = sum_append f (closed M W [] bs) (left (held_after M W [] bs) ∷ [])

-- more bytes
closed_append : (m : Mode) (s : State) (h xs ys : List ℕ)
    → closed m s h (xs ++ ys) ≡ closed m s h xs ++ closed m (after m s xs) (held_after m s h xs) ys
closed_append m s h [] ys = refl
closed_append m s h (x ∷ xs) ys =
    ap (λ l. piece_of t all ++ l) (closed_append m t.to (drop (closes t) all) xs ys)
    ∙ sym (append_assoc (piece_of t all) (closed m t.to (drop (closes t) all) xs) _)
  where
    t : Step
    t = next m s x

    all : List ℕ
    all = h ++ (x ∷ [])

held_append : (m : Mode) (s : State) (h xs ys : List ℕ)
    → held_after m s h (xs ++ ys) ≡ held_after m (after m s xs) (held_after m s h xs) ys
held_append m s h [] ys = refl
held_append m s h (x ∷ xs) ys = held_append m (next m s x).to (drop (closes (next m s x)) (h ++ (x ∷ []))) xs ys

-- all pieces, from a state on
abbrev pieces_from : Mode → State → List ℕ → List ℕ → List Piece
pieces_from m s h bs = closed m s h bs ++ (left (held_after m s h bs) ∷ [])

from_append : (m : Mode) (s : State) (h xs ys : List ℕ)
    → pieces_from m s h (xs ++ ys) ≡ closed m s h xs ++ pieces_from m (after m s xs) (held_after m s h xs) ys
from_append m s h xs ys =
    (λ i. closed_append m s h xs ys i ++ (left (held_append m s h xs ys i) ∷ []))
    ∙ append_assoc (closed m s h xs) (closed m (after m s xs) (held_after m s h xs) ys) _

-- bytes that leave the table waiting are all in closed pieces
to_w : (m : Mode) (xs ys : List ℕ) → after m W xs ≡ W → pieces m (xs ++ ys) ≡ closed m W [] xs ++ pieces m ys
to_w m xs ys e =
    from_append m W [] xs ys
    ∙ (λ i. closed m W [] xs ++ pieces_from m (e i) (none i) ys)
  where
    none : held_after m W [] xs ≡ []
    none = held_open m W xs ∙ ap open_bytes e

-- a frame read while waiting is one piece
quiet_from : {m : Mode} {s z : State} {xs : List ℕ} → Quiet m s xs z → (h ys : List ℕ)
    → pieces_from m s h (xs ++ ys) ≡ pieces_from m z (h ++ xs) ys
quiet_from {m} {s} Reading.still h ys = ap (λ l. pieces_from m s l ys) (sym (append-nil h))
quiet_from {m} (Reading.by {z = z} {b = b} {bs = bs} e q) h ys =
    ap (λ (t : Step). piece_of t (h ++ (b ∷ [])) ++ closed m t.to (drop (closes t) (h ++ (b ∷ []))) (bs ++ ys)
    ++ (left (held_after m t.to (drop (closes t) (h ++ (b ∷ []))) (bs ++ ys)) ∷ [])) e
    ∙ quiet_from q (h ++ (b ∷ [])) ys
    ∙ ap (λ l. pieces_from m z l ys) (append_snoc h b bs)

one_piece : (m : Mode) (x : Message) (ys : List ℕ) → pieces m (line m x ++ ys) ≡ whole m x ∷ pieces m ys
one_piece m x ys =
    ap (pieces m) (Reading.whole m id d ys)
    ∙ quiet_from (front_quiet m id d x.acceptable) [] (ETX ∷ ys)
    ∙ ap (λ (t : Step). ended t) (delivered m id d x.acceptable)
    ∙ (λ i. accepted id d (all i) ∷ pieces_from m W (none i) ys)
  where
    id : ℕ
    id = x.id

    d : List ℕ
    d = x.body

    f : List ℕ
    f = front m id d

    n : ℕ
    n = length (line m x)

    ended : Step → List Piece
    ended t =
        piece_of t (f ++ (ETX ∷ [])) ++ closed m t.to (drop (closes t) (f ++ (ETX ∷ []))) ys
        ++ (left (held_after m t.to (drop (closes t) (f ++ (ETX ∷ []))) ys) ∷ [])

    same : f ++ (ETX ∷ []) ≡ line m x
    same = sym (Reading.whole m id d []) ∙ append-nil (line m x)

    all : take (n + 0 + 0) (f ++ (ETX ∷ [])) ≡ line m x
    all = ap (take (n + 0 + 0)) same ∙ take_all (n + 0 + 0) (line m x) (omega arith)

    none : drop (n + 0 + 0) (f ++ (ETX ∷ [])) ≡ []
    none =
        let l : length (line m x) ≤ n + 0 + 0 = omega arith in
        ap (drop (n + 0 + 0)) same ∙ drop_of_length-le (line m x) l

frames_pieces : (m : Mode) (xs : List Message) (ys : List ℕ) → pieces m (frames m xs ++ ys) ≡ map (whole m) xs ++ pieces m ys
frames_pieces m [] ys = refl
frames_pieces m (x ∷ xs) ys =
    ap (pieces m) (append_assoc (line m x) (frames m xs) ys)
    ∙ one_piece m x (frames m xs ++ ys)
    ∙ ap (λ l. whole m x ∷ l) (frames_pieces m xs ys)

pub between : (m : Mode) (noise : List ℕ) (one : Message) (more : List Message) (rest : List ℕ) → Between m noise one more rest
between m noise one more rest =
    record {
      front = closed m W [] p;
      reaches = sym (append-nil (concatenated (closed m W [] p))) ∙ ap (λ l. concatenated (closed m W [] p) ++ l) (sym none) ∙ closed_joins m W [] p;
      follows =
          ap (pieces m) regroup ∙ to_w m p (frames m more ++ rest) waiting ∙ ap (λ l. closed m W [] p ++ l) (frames_pieces m more rest);
    }
  where
    p : List ℕ
    p = noise ++ line m one

    waiting : after m W p ≡ W
    waiting =
        after_append m W noise (line m one)
        ∙ resync m (after m W noise) one.id one.body (usable one.id one.body one.acceptable)

    none : held_after m W [] p ≡ []
    none = held_open m W p ∙ ap open_bytes waiting

    regroup : noise ++ (frames m (one ∷ more) ++ rest) ≡ p ++ (frames m more ++ rest)
    regroup = simp append_assoc
