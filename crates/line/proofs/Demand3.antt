-- Demand 3, of every list of calls.
use mathlib.Core.List.{List, [], ◌∷◌, ◌++◌, append_assoc, append-nil}
use mathlib.Core.Path.{◌≡◌, refl, sym, ap, ◌∙◌, subst}
use Prim.Native.Nat.{ℕ, suc, ◌+◌, ◌-◌, ◌≤◌, ◌<◌}
use native.Mathlib.Omega.{arith}
use lib.ListN.{length, take, get_or, length-append, replicate, length-replicate, get_or-replicate, get_or-append}
use lib.Seq.{get_or_at}
use Rattle.line.specs.Frame.{Mode, mode_of}
use Rattle.line.specs.Table.{Event, after, events, refuses}
use Rattle.line.specs.Table.State.{W}
use Rattle.line.specs.Table.Event.{nothing, message}
use Rattle.line.specs.Record.{Rec, Kept, limit}
use Rattle.line.specs.Calls.{History, Trace, taken, offered, Right, Every, frame_length, Message, line, frames, Delivers, Demand3}
use Rattle.line.specs.Calls.History.{start, call}
use Rattle.line.proofs.Account.{conserved}
use Rattle.line.proofs.Reading.{front, front_length, read_events, length_events}
use Rattle.line.proofs.Resync.{after_append}
use Rattle.line.proofs.Mirror.{w_ok}
use Rattle.line.proofs.Each.{SoFar, so_far}
use Rattle.line.proofs.Answering.{Answers, right_answers, answers_before, answers_last, shorter, sums, stands, lengths, at_after, at_front, frames_leave}
use Rattle.line.proofs.Latest.{stored, latest_to, latest_from, absent_to, absent_from}

-- the events at the bytes of the frame of x, which is the bytes from number first of all
pub record Read (m : Mode) (x : Message) (first : ℕ) (all : List ℕ) : Type 0 where
  pub quiet : (j : ℕ) → suc j < length (line m x) → get_or (events m W all) (first + j) nothing ≡ nothing
  pub last_event : (j : ℕ) → suc j ≡ length (line m x)
      → get_or (events m W all) (first + j) nothing ≡ message x.id x.body (length (line m x))

read : (m : Mode) (x : Message) (p rest : List ℕ) → after m W p ≡ W → Read m x (length p) (p ++ (line m x ++ rest))
read m x p rest e =
    record {
      quiet = λ j h.
          at j
          ∙ get_or-append q (g ∷ events m W rest) nothing j (simp length-replicate (omega (arith, fl)))
          ∙ get_or-replicate n j nothing nothing (omega (arith, fl));
      last_event = λ j h. at j ∙ get_or_at q g (events m W rest) nothing j (length-replicate n nothing ∙ omega (arith, fl));
    }
  where
    n : ℕ
    n = length (front m x.id x.body)

    fl : n + 1 ≡ length (line m x)
    fl = front_length m x.id x.body

    q : List Event
    q = replicate n nothing

    g : Event
    g = message x.id x.body (length (line m x))

    at : (j : ℕ) → get_or (events m W (p ++ (line m x ++ rest))) (length p + j) nothing ≡ get_or (q ++ (g ∷ events m W rest)) j nothing
    at j =
        at_after m W p (line m x ++ rest) j
        ∙ ap (λ s. get_or (events m s (line m x ++ rest)) j nothing) e
        ∙ ap (λ l. get_or l j nothing) (read_events m x.id x.body x.acceptable rest)

never : (x : Event) (i : ℕ) (d : List ℕ) (n : ℕ) → x ≡ nothing → x ≡ message i d n → ⊥
never x i d n p q = let z : ◌≡◌ {A = ℕ} 0 1 = cc in omega arith

module _ (m : Mode) (x : Message) (first : ℕ) (all : List ℕ) (rd : Read m x first all) where
  len : ℕ
  len = length (line m x)

  len_pos : 0 < len
  unfolding len
  len_pos = omega (arith, front_length m x.id x.body)

  at : ℕ → Event
  at k = get_or (events m W all) k nothing

  delivers : (before bs rest : List ℕ) (n : ℕ) (a : Event) → all ≡ before ++ (take n bs ++ rest) → length before ≤ limit
      → Right m before bs n a → Delivers m x first before bs n a
  unfolding len at
  delivers before bs rest n a e l r =
      record {
        ends = λ p q. there p q;
        gives = λ p q.
            sym (final (n - 1) (omega arith)) ∙ ap at (omega (arith, there p q, len_pos)) ∙ rd.last_event (len - 1) (omega (arith, len_pos));
        elsewhere = λ z p q.
            sym (final (n - 1) (omega arith)) ∙ ap at (omega arith) ∙ rd.quiet (lb + n - 1 - first) (omega arith);
      }
    where
      lb : ℕ
      lb = length before

      t : List ℕ
      t = take n bs

      lt : length t ≡ n
      lt = ap length r.takes ∙ sym r.counts

      s : Answers (events m (after m W before) t) a
      s = right_answers m before bs n a l r

      lev : length (events m (after m W before) t) ≡ n
      lev = length_events m (after m W before) t ∙ lt

      here : (i : ℕ) → i < n → at (lb + i) ≡ get_or (events m (after m W before) t) i nothing
      here i h =
          ap (λ u. get_or (events m W u) (lb + i) nothing) e
          ∙ at_after m W before (t ++ rest) i
          ∙ at_front m (after m W before) t rest i (omega (arith, lt))

      final : (i : ℕ) → suc i ≡ n → at (lb + i) ≡ a
      final i h = here i (omega arith) ∙ answers_last s i (omega (arith, lev))

      earlier : (i : ℕ) → suc i < n → at (lb + i) ≡ nothing
      earlier i h = here i (omega arith) ∙ answers_before s i (omega (arith, lev))

      there : lb < first + len → first + len ≤ lb + n → lb + n ≡ first + len
      there p q = omega (arith, not_past)
        where
          not_past : ¬ (first + len < lb + n)
          not_past w =
              never (at (first + (len - 1))) _ _ _
              (ap at (omega (arith, len_pos)) ∙ earlier (first + len - 1 - lb) (omega (arith, len_pos)))
              (rd.last_event (len - 1) (omega (arith, len_pos)))

  every : (h : History) (rest : List ℕ) → all ≡ taken h ++ rest → length (taken h) ≤ limit → Every (Right m) h
      → Every (Delivers m x first) h
  every start rest e l r = tt
  every (call h c n a) rest e l (rs, r) =
      (every h (t ++ rest) split (shorter h t l) rs, delivers (taken h) (offered c) rest n a split (shorter h t l) r)
    where
      t : List ℕ
      t = take n (offered c)

      split : all ≡ taken h ++ (t ++ rest)
      split = e ∙ append_assoc (taken h) t rest

pub frames_append : (m : Mode) (xs ys : List Message) → frames m (xs ++ ys) ≡ frames m xs ++ frames m ys
frames_append m [] ys = refl
frames_append m (x ∷ xs) ys =
    ap (λ l. line m x ++ l) (frames_append m xs ys) ∙ sym (append_assoc (line m x) (frames m xs) (frames m ys))

regroup : (n a f l r : List ℕ) → n ++ (a ++ (f ++ l) ++ r) ≡ n ++ a ++ (f ++ (l ++ r))
regroup n a f l r = simp append_assoc

split_frames : (m : Mode) (noise : List ℕ) (xs : List Message) (x : Message) (later : List Message) (rest : List ℕ)
    → noise ++ (frames m (xs ++ (x ∷ later)) ++ rest) ≡ noise ++ frames m xs ++ (line m x ++ (frames m later ++ rest))
split_frames m noise xs x later rest =
    ap (λ l. noise ++ (l ++ rest)) (frames_append m xs (x ∷ later)) ∙ regroup noise (frames m xs) (line m x) (frames m later) rest

resynced : (m : ℕ) (h : History) (r : Rec) → SoFar m h r → (noise : List ℕ) (one : Message) (more : List Message) (x : Message)
    (later : List Message) (rest : List ℕ) → taken h ≡ noise ++ (frames (mode_of m) (one ∷ (more ++ (x ∷ later))) ++ rest)
    → Every (Delivers (mode_of m) x (length noise + length (frames (mode_of m) (one ∷ more)))) h
resynced m h r s noise one more x later rest e =
    subst (λ n. Every (Delivers M x n) h) (length-append noise (frames M (one ∷ more)))
    (every M x (length p) (p ++ (line M x ++ (frames M later ++ rest)))
    (read M x p (frames M later ++ rest) (after_append M W noise (frames M (one ∷ more)) ∙ frames_leave M (after M W noise) more one))
    h [] (split ∙ sym (append-nil (taken h))) s.within s.calls)
  where
    M : Mode
    M = mode_of m

    p : List ℕ
    p = noise ++ frames M (one ∷ more)

    split : p ++ (line M x ++ (frames M later ++ rest)) ≡ taken h
    split = sym (e ∙ split_frames M noise (one ∷ more) x later rest)

-- THE THEOREM: for every list of single steps and slice calls from a fresh reader
pub demand3 : (m : ℕ) {h : History} {r : Rec} → Trace m h r → Demand3 m h r
demand3 m {h} {r} t =
    record {
      calls = s.calls;
      fed = ap (λ x. x.fed) s.mirrors;
      accepted =
          ap (λ x. x.accepted) s.mirrors ∙ lengths M W (taken h) w_ok ∙ sums M (frame_length M) refl refl h s.within s.calls;
      refused = ap (λ x. x.refused) s.mirrors ∙ sums M refuses refl refl h s.within s.calls;
      outside = ap (λ x. x.outside) s.mirrors;
      pending = ap (λ x. x.pending) s.mirrors;
      sum = rw s.mirrors (omega (arith, conserved M W (taken h)));
      latest = λ k d. (λ e. latest_to k d h (sym (kept k) ∙ e), λ g. kept k ∙ latest_from k d h g);
      absent = λ k. (λ e. absent_to k h (sym (kept k) ∙ e), λ g. kept k ∙ absent_from k h g);
      delivers = resynced m h r s;
    }
  where
    M : Mode
    M = mode_of m

    s : SoFar m h r
    s = so_far m t

    kept : (k : Kept) → r.latest k ≡ stored k h
    kept k = ap (λ x. x.latest k) s.mirrors ∙ stands M k h s.within s.calls

-- from a fresh reader the first frame is given too
pub from_fresh : (m : ℕ) {h : History} {r : Rec} → Trace m h r → (x : Message) (rest : List ℕ) → taken h ≡ line (mode_of m) x ++ rest
    → Every (Delivers (mode_of m) x 0) h
from_fresh m {h} {r} t x rest e =
    every (mode_of m) x 0 (line (mode_of m) x ++ rest) (read (mode_of m) x [] rest refl) h [] (sym (append-nil (taken h) ∙ e)) s.within s.calls
  where
    s : SoFar m h r
    s = so_far m t
