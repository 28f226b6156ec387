-- Bytes that are no DLE, many at once: outside frames and inside data.
use mathlib.Core.Bool.{cond}
use mathlib.Core.List.{List, [], ◌∷◌, ◌++◌, append_assoc, append-nil}
use mathlib.Core.Path.{◌≡◌, refl, sym, ap, subst, ◌∙◌}
use Prim.Native.Nat.{ℕ, zero, suc, ◌+◌, ◌-◌, ◌≤◌, ◌<◌}
use native.Mathlib.Nat.{add-zero, le_refl}
use native.Mathlib.Numerals.{add-one}
use native.Mathlib.Omega.{arith}
use borrow.Author.Count.{below_more}
use borrow.Author.Tests.{lt-ltb, ltb-true, ltb-false}
use lib.Dec.{ltb}
use borrow.Rule.Slice.PartMut.{put_mid}
use lib.ListN.{length, take, drop, get_or, set, length-append, length-drop, length-set}
use lib.Seq.{length-take-le, take-suc, take-suc-set, take-take, take-add, drop-drop, get_or-drop, get_or-take, drop-cons}
use Rattle.stuffing.specs.Stuffing.{DLE, stuffed}
use Rattle.stuffing.proofs.StuffingLaws.{stuffed_nil, stuffed_other, stuffed_append}
use Rattle.stuffing.proofs.PlainLaws.{Plain}
use Rattle.line.specs.Frame.{Mode, Class, mode_of, class_of}
use Rattle.line.specs.Frame.Class.{dle, etx, sum, other}
use Rattle.line.specs.Table.{pending, go, skip, join, refuse, next}
use Rattle.line.specs.Table.State.{W, F}
use Rattle.line.specs.Table.Event.{nothing}
use Rattle.line.specs.Record.{Rec, Result, limit, state_of, walk}
use Rattle.line.specs.Record.Place.{at as on}
use Rattle.line.proofs.Classes.{dle_is}
use Rattle.line.proofs.Reading.{is}
use Rattle.record.specs.View.{place_of}
use Rattle.std.proofs.lemmas.Slice.{take-put_mid}
use Rattle.std.specs.List.{AllWithin, HoldsAt}
use Rattle.std.specs.Option.{MatchOption}
use Rattle.std.proofs.Common.{Option, Some, None}
use Rattle.reader.specs.Moving.{moving_of, Skips, NoDle, Copied, Fills, Base, one, see, ahead, Pends}
use Rattle.reader.specs.declared.Moving.{Moving}
use Rattle.reader.proofs.Stepping.{one_by}
use Rattle.record.proofs.Data.{tested}
use Rattle.reader.proofs.Feeding.{one_step, Silent}

pub none_yet : (s : List ℕ) (from : ℕ) → NoDle s from from
none_yet s from j h l = absurd (let z : ⊥ = omega arith in z)

pub none_more : (s : List ℕ) (from at : ℕ) → NoDle s from at → (get_or s at 0 ≡ DLE → ⊥) → NoDle s from (at + 1)
none_more s from at p q j h l = below_more (λ (i : ℕ). from ≤ i → get_or s i 0 ≡ DLE → ⊥) at (λ i x y. p i y x) (λ y. q) j l h

-- what `position` answers over a part of a slice, of DLE
abbrev pub IsFirst : List ℕ → Option ℕ → Type 0
IsFirst xs r =
    MatchOption r (AllWithin (λ b. b ≡ DLE → ⊥) xs 0 (length xs))
    (λ i. (i < length xs) × HoldsAt (λ b. b ≡ DLE) xs i × AllWithin (λ b. b ≡ DLE → ⊥) xs 0 i)

read_part : (s : List ℕ) (from n i : ℕ) → from + i < n → get_or (take (n - from) (drop from s)) i 0 ≡ get_or s (from + i) 0
read_part s from n i h = get_or-take (n - from) (drop from s) i 0 (omega arith) ∙ get_or-drop from s i 0

length_part : (s : List ℕ) (from n : ℕ) → from ≤ n → n ≤ length s → length (take (n - from) (drop from s)) ≡ n - from
length_part s from n h l = length-take-le (n - from) (drop from s) (rw (length-drop from s) (omega arith))

none_within : (s : List ℕ) (from n r : ℕ) → from + r ≤ n → AllWithin (λ b. b ≡ DLE → ⊥) (take (n - from) (drop from s)) 0 r → NoDle s from (from + r)
none_within s from n r h w j l u e =
    let i : from + (j - from) ≡ j = omega arith in
    w (j - from) 0 (omega arith) (omega arith) (read_part s from n (j - from) (omega arith) ∙ ap (λ (k : ℕ). get_or s k 0) i ∙ e)

pub skipped : (s : List ℕ) (from n i : ℕ) → from ≤ n → n ≤ length s → IsFirst (take (n - from) (drop from s)) (Some i) → Skips s from n (from + i)
skipped s from n i h l f =
    let e = length_part s from n h l in
    record {
      least = omega arith;
      most = omega (arith, e, f.0);
      none = none_within s from n i (omega (arith, e, f.0)) f.2;
      stop = λ u. sym (read_part s from n i u) ∙ f.1 0;
    }

pub skipped_all : (s : List ℕ) (from n : ℕ) → from ≤ n → n ≤ length s → IsFirst (take (n - from) (drop from s)) None → Skips s from n n
skipped_all s from n h l f =
    let e : from + (n - from) ≡ n = omega arith in
    record {
      least = h;
      most = le_refl n;
      none = subst (NoDle s from) e (none_within s from n (n - from) (omega arith) (subst (AllWithin (λ b. b ≡ DLE → ⊥) (take (n - from) (drop from s)) 0) (length_part s from n h l) f));
      stop = λ u. absurd (omega (arith, u));
    }

pub none_four : (s : List ℕ) (at : ℕ) → Plain s at → NoDle s at (at + 4)
none_four s at p =
    let n2 : at + 1 + 1 ≡ at + 2 = omega arith in
    let n3 : at + 2 + 1 ≡ at + 3 = omega arith in
    let n4 : at + 3 + 1 ≡ at + 4 = omega arith in
    let a1 = none_more s at at (none_yet s at) p.first in
    let a2 = rw n2 at (none_more s at (at + 1) a1 p.second) in
    let a3 = rw n3 at (none_more s at (at + 2) a2 p.third) in
    rw n4 at (none_more s at (at + 3) a3 p.fourth)

fill_more : (d₀ d s : List ℕ) (len from at to : ℕ) → to < length d → from ≤ at → at < length s
    → take to d ≡ take len d₀ ++ take (at - from) (drop from s)
    → take (to + 1) (set d to (get_or s at 0)) ≡ take len d₀ ++ take (at + 1 - from) (drop from s)
fill_more d₀ d s len from at to h f l e =
    let n : at + 1 - from ≡ suc (at - from) = omega arith in
    let i : from + (at - from) ≡ at = omega arith in
    let b : get_or (drop from s) (at - from) 0 ≡ get_or s at 0 = get_or-drop from s (at - from) 0 ∙ ap (λ (j : ℕ). get_or s j 0) i in
    let m : at - from < length (drop from s) = rw (length-drop from s) (omega arith) in
    rw (n, add-one to)
    (take-suc-set d to (get_or s at 0) h
    ∙ ap (λ (x : List ℕ). x ++ (get_or s at 0 ∷ [])) e
    ∙ append_assoc (take len d₀) (take (at - from) (drop from s)) (get_or s at 0 ∷ [])
    ∙ ap (λ (x : List ℕ). take len d₀ ++ x)
    (sym (take-suc (drop from s) (at - from) 0 m ∙ ap (λ (x : ℕ). take (at - from) (drop from s) ++ (x ∷ [])) b)))

-- one more byte, and a part of the slice
pub copied_more : (a a' s : List ℕ) (len from at to : ℕ) → to ≡ len + (at - from) → Copied a a' len s from at → at < length s → to < 1024
    → (get_or s at 0 ≡ DLE → ⊥) → Copied a (set a' to (get_or s at 0)) len s from (at + 1)
copied_more a a' s len from at to e c l r n =
    let w = c.whole in
    let f : from ≤ at = c.least in
    let q : take to a' ≡ take len a ++ take (at - from) (drop from s) = ap (λ (x : ℕ). take x a') e ∙ c.same in
    let t : len + (at + 1 - from) ≡ to + 1 = omega arith in
    record {
      least = omega arith;
      none = none_more s from at c.none n;
      whole = length-set a' to (get_or s at 0) ∙ w;
      same = rw t (fill_more a a' s len from at to (omega arith) f l q);
    }

length_put : (to k : ℕ) (a ys : List ℕ) → to + k ≤ length a → length ys ≡ k → length (put_mid to k a ys) ≡ length a
length_put to k a ys h e =
    length-append (take to a) (ys ++ drop k (drop to a))
    ∙ omega (arith, e, h, length-take-le to a (omega arith), length-append ys (drop k (drop to a)), length-drop k (drop to a), length-drop to a)

pub copied_run : (a a' ys s : List ℕ) (len from at r to k : ℕ) → to ≡ len + (at - from) → Copied a a' len s from at → at ≤ r → r ≤ length s
    → len + (r - from) ≤ 1024 → NoDle s at r → k ≡ r - at → ys ≡ take (r - at) (drop at s) → Copied a (put_mid to k a' ys) len s from r
copied_run a a' ys s len from at r to k e c l h u n b y =
    let f : from ≤ at = c.least in
    let w = c.whole in
    let z : length ys ≡ r - at = ap length y ∙ length_part s at r l h in
    let t : len + (r - from) ≡ to + (r - at) = omega arith in
    let m : r - from ≡ at - from + (r - at) = omega arith in
    let i : from + (at - from) ≡ at = omega arith in
    record {
      least = omega arith;
      none = λ j v x. tested (ltb j at) (λ q. c.none j v (ltb-true j at q)) (λ q. n j (ltb-false j at q) x);
      whole = length_put to k a' ys (omega arith) (z ∙ sym b) ∙ w;
      same =
          rw (t, m)
          (take-put_mid to k a' ys (to + (r - at)) (omega (arith, z)) (omega arith)
          ∙ ap (λ x. take to a' ++ x) y
          ∙ ap (λ x. x ++ take (r - at) (drop at s)) (ap (λ (x : ℕ). take x a') e ∙ c.same)
          ∙ append_assoc (take len a) (take (at - from) (drop from s)) (take (r - at) (drop at s))
          ∙ ap (λ x. take len a ++ x)
          (sym (take-add (at - from) (r - at) (drop from s)
          ∙ ap (λ x. take (at - from) (drop from s) ++ take (r - at) x) (drop-drop (at - from) from s ∙ ap (λ (v : ℕ). drop v s) i))));
    }

-- bytes stored, and then more
pub copied_then : (a b c s : List ℕ) (len from at r : ℕ) → Copied a b len s from at → Copied b c (len + (at - from)) s at r → Copied a c len s from r
copied_then a b c s len from at r p q =
    let f : from ≤ at = p.least in
    let g : at ≤ r = q.least in
    let n : len + (r - from) ≡ len + (at - from) + (r - at) = omega arith in
    let m : r - from ≡ at - from + (r - at) = omega arith in
    let i : from + (at - from) ≡ at = omega arith in
    record {
      least = omega arith;
      none = λ j l h. tested (ltb j at) (λ t. p.none j l (ltb-true j at t)) (λ t. q.none j (ltb-false j at t) h);
      whole = q.whole;
      same =
          rw (n, m)
          (q.same
          ∙ ap (λ x. x ++ take (r - at) (drop at s)) p.same
          ∙ append_assoc (take len a) (take (at - from) (drop from s)) (take (r - at) (drop at s))
          ∙ ap (λ x. take len a ++ x)
          (sym (take-add (at - from) (r - at) (drop from s)
          ∙ ap (λ x. take (at - from) (drop from s) ++ take (r - at) x) (drop-drop (at - from) from s ∙ ap (λ (k : ℕ). drop k s) i))));
    }

-- what is read of a slice's beginning is read of the slice
window : (k from most : ℕ) (s : List ℕ) → from + k ≤ most → take k (drop from (take most s)) ≡ take k (drop from s)
window k zero most s h = take-take k most s (omega arith)
window k (suc f) zero s h = absurd (omega arith)
window k (suc f) (suc m) [] h = refl
window k (suc f) (suc m) (x ∷ s) h = window k f m s (omega arith)

pub copied_beyond : (a a' s : List ℕ) (len from r most : ℕ) → r ≤ most → Copied a a' len (take most s) from r → Copied a a' len s from r
copied_beyond a a' s len from r most h c =
    let f : from ≤ r = c.least in
    record {
      least = f;
      none = λ j l n e. c.none j l n (get_or-take most s j 0 (omega arith) ∙ e);
      whole = c.whole;
      same = c.same ∙ ap (λ x. take len a ++ x) (window (r - from) from most s (omega arith));
    }

-- the bytes stored, where no more are to be
pub fills_of : (a c s : List ℕ) (len from n r : ℕ) → Copied a c len s from r → r ≤ n → len + (r - from) ≤ 1024
    → (r < n → (get_or s r 0 ≡ DLE → ⊥) → len + (r - from) ≡ 1024) → Fills a c len s from n r
fills_of a c s len from n r z m h f =
    record { least = z.least; most = m; held = h; none = z.none; stop = f; whole = z.whole; same = z.same }

-- a byte that is no DLE, in W and in F
w_other : (m : Mode) (b : ℕ) → (b ≡ DLE → ⊥) → next m W b ≡ skip 1
w_other m b n = by (class_of b) refl
  where
    by : (k : Class) → class_of b ≡ k → next m W b ≡ skip 1
    by dle e = absurd (n (dle_is b e))
    by etx e = is m W b e refl
    by sum e = is m W b e refl
    by other e = is m W b e refl

pub f_other : (m : Mode) (id : ℕ) (d : List ℕ) (b : ℕ) → (b ≡ DLE → ⊥) → next m (F id d) b ≡ join id d b (pending (F id d) + 1)
f_other m id d b n = by (class_of b) refl
  where
    by : (k : Class) → class_of b ≡ k → next m (F id d) b ≡ join id d b (pending (F id d) + 1)
    by dle e = absurd (n (dle_is b e))
    by etx e = is m (F id d) b e refl
    by sum e = is m (F id d) b e refl
    by other e = is m (F id d) b e refl

module _ (k : ℕ) (z : Base) where
  -- the record in W, and in F
  abbrev wait : ℕ → ℕ → Rec
  wait o f =
      record { mode = k; place = on W; fed = f; accepted = z.accepted; refused = z.refused; outside = o; pending = 0; latest = z.latest }

  abbrev within : ℕ → ℕ → List ℕ → ℕ → ℕ → Rec
  within i o d h f =
      record { mode = k; place = on (F i d); fed = f; accepted = z.accepted; refused = z.refused; outside = o; pending = h; latest = z.latest }

  wait_one : (o f b : ℕ) → (b ≡ DLE → ⊥) → record { after = wait (o + 1) (f + 1); event = nothing } ≡ one (wait o f) b
  wait_one o f b n =
      (λ i.
      record {
        after =
            record {
              mode = k;
              place = on W;
              fed = f + 1;
              accepted = sym (add-zero z.accepted) i;
              refused = sym (add-zero z.refused) i;
              outside = o + 1;
              pending = 0;
              latest = z.latest;
            };
        event = nothing;
      })
      ∙ one_by (wait o f) b (w_other (mode_of k) b n)

  -- one more data byte that is no DLE pends as one byte
  pends_one : (d : List ℕ) (b : ℕ) → (b ≡ DLE → ⊥) → length (stuffed (d ++ (b ∷ []))) ≡ length (stuffed d) + 1
  pends_one d b n =
      ap length (stuffed_append d (b ∷ []) ∙ ap (λ l. stuffed d ++ l) (stuffed_other b [] n ∙ ap (λ l. b ∷ l) stuffed_nil))
      ∙ length-append (stuffed d) (b ∷ [])

  within_one : (i o : ℕ) (d : List ℕ) (h f b : ℕ) → (b ≡ DLE → ⊥) → length d < 1024 → h ≡ length (stuffed d) + 2
      → record { after = within i o (d ++ (b ∷ [])) (h + 1) (f + 1); event = nothing } ≡ one (within i o d h f) b
  within_one i o d h f b n l e =
      let p : h + 1 ≡ length (stuffed (d ++ (b ∷ []))) + 2 = omega (arith, pends_one d b n) in
      (λ j.
      record {
        after =
            record {
              mode = k;
              place = on (F i (d ++ (b ∷ [])));
              fed = f + 1;
              accepted = sym (add-zero z.accepted) j;
              refused = sym (add-zero z.refused) j;
              outside = sym (add-zero o) j;
              pending = p j;
              latest = z.latest;
            };
        event = nothing;
      })
      ∙ one_by (within i o d h f) b
      (f_other (mode_of k) i d b n ∙ ap (λ t. cond t (go (F i (d ++ (b ∷ [])))) (refuse 4 i (pending (F i d) + 1))) (lt-ltb (length d) 1024 l))

  module _ (s : List ℕ) where
    abbrev left_wait : ℕ → ℕ → ℕ → Result
    left_wait at o f = ahead at (walk (wait o f) (drop at s))

    -- j bytes outside
    waits : (j at o f : ℕ) → at + j ≤ length s → f + j ≤ limit → NoDle s at (at + j) → left_wait at o f ≡ left_wait (at + j) (o + j) (f + j)
    waits zero at o f h l n =
        let p : at ≡ at + 0 = omega arith in
        let q : o ≡ o + 0 = omega arith in
        let r : f ≡ f + 0 = omega arith in
        λ i. left_wait (p i) (q i) (r i)
    waits (suc j) at o f h l n =
        let p : at + 1 + j ≡ at + suc j = omega arith in
        let q : o + 1 + j ≡ o + suc j = omega arith in
        let r : f + 1 + j ≡ f + suc j = omega arith in
        one_step (wait o f) s at _ (wait_one o f (get_or s at 0) (n at (omega arith) (omega arith))) (omega arith) (omega arith)
        ∙ waits j (at + 1) (o + 1) (f + 1) (omega arith) (omega arith) (λ x y w. n x (omega arith) (omega arith))
        ∙ (λ i. left_wait (p i) (q i) (r i))

    abbrev left_within : ℕ → ℕ → ℕ → List ℕ → ℕ → ℕ → Result
    left_within i o at d h f = ahead at (walk (within i o d h f) (drop at s))

    -- j bytes of data
    stores : (i o j at : ℕ) (d : List ℕ) (h f : ℕ) → at + j ≤ length s → f + j ≤ limit → NoDle s at (at + j) → length d + j ≤ 1024
        → h ≡ length (stuffed d) + 2
        → left_within i o at d h f ≡ left_within i o (at + j) (d ++ take j (drop at s)) (h + j) (f + j)
    stores i o zero at d h f p l n r u =
        let x : at ≡ at + 0 = omega arith in
        let y : h ≡ h + 0 = omega arith in
        let w : f ≡ f + 0 = omega arith in
        let e : d ≡ d ++ [] = sym (append-nil d) in
        λ t. left_within i o (x t) (e t) (y t) (w t)
    stores i o (suc j) at d h f p l n r u =
        let b = get_or s at 0 in
        let x : at + 1 + j ≡ at + suc j = omega arith in
        let y : h + 1 + j ≡ h + suc j = omega arith in
        let w : f + 1 + j ≡ f + suc j = omega arith in
        let g : at < length s = omega arith in
        let nb : (b ≡ DLE → ⊥) = n at (omega arith) (omega arith) in
        let c : length (d ++ (b ∷ [])) ≡ length d + 1 = length-append d (b ∷ []) in
        let e : (d ++ (b ∷ [])) ++ take j (drop (at + 1) s) ≡ d ++ take (suc j) (drop at s) =
        rw (drop-cons s at 0 g, add-one at) (append_assoc d (b ∷ []) (take j (drop (suc at) s))) in
        one_step (within i o d h f) s at _ (within_one i o d h f b nb (omega arith) u) g (omega arith)
        ∙ stores i o j (at + 1) (d ++ (b ∷ [])) (h + 1) (f + 1) (omega arith) (omega arith)
        (λ v q w. n v (omega arith) (omega arith)) (omega (arith, c)) (omega (arith, pends_one d b nb))
        ∙ (λ t. left_within i o (x t) (e t) (y t) (w t))

    -- and what then pends
    stuffed_none : (j at : ℕ) → at + j ≤ length s → NoDle s at (at + j) → length (stuffed (take j (drop at s))) ≡ j
    stuffed_none zero at h n = ap length stuffed_nil
    stuffed_none (suc j) at h n =
        let g : at < length s = omega arith in
        let q : at + 1 ≡ suc at = add-one at in
        rw (drop-cons s at 0 g, stuffed_other (get_or s at 0) (take j (drop (suc at) s)) (n at (omega arith) (omega arith)))
        (ap suc (stuffed_none j (suc at) (omega arith) (λ v x w. n v (omega arith) (omega arith))))

see_wait : (k : ℕ) (z : Base) (m : Moving) (a : List ℕ) (f : ℕ) → m.place ≡ 0 → m.pending ≡ 0 → see k z m a f ≡ wait k z m.outside f
unfolding place_of
see_wait k z m a f p h =
    λ i.
    record {
      mode = k;
      place = place_of (p i) m.id (take m.len a) m.c1 m.c2;
      fed = f;
      accepted = z.accepted;
      refused = z.refused;
      outside = m.outside;
      pending = h i;
      latest = z.latest;
    }

see_within : (k : ℕ) (z : Base) (m : Moving) (a : List ℕ) (f : ℕ) → m.place ≡ 2
    → see k z m a f ≡ within k z m.id m.outside (take m.len a) m.pending f
unfolding place_of
see_within k z m a f p =
    λ i.
    record {
      mode = k;
      place = place_of (p i) m.id (take m.len a) m.c1 m.c2;
      fed = f;
      accepted = z.accepted;
      refused = z.refused;
      outside = m.outside;
      pending = m.pending;
      latest = z.latest;
    }

-- the moving numbers after bytes outside
abbrev pub outer : Moving → ℕ → Moving
outer m j =
    moving_of m.place m.id m.c1 m.c2 m.len (m.outside + j) m.pending

-- and after bytes of data
abbrev pub inner : Moving → ℕ → Moving
inner m j =
    moving_of m.place m.id m.c1 m.c2 (m.len + j) m.outside (m.pending + j)

-- bytes outside raise nothing
pub silent_wait : (k : ℕ) (m : Moving) (a s : List ℕ) (at to n : ℕ) → m.place ≡ 0 → m.pending ≡ 0 → at ≤ to → to ≤ n → n ≤ length s
    → NoDle s at to → Silent k m a (outer m (to - at)) a s at to n
silent_wait k m a s at to n p h l r w d z q =
    let e : at + (to - at) ≡ to = omega arith in
    let g : z.fed + at + (to - at) ≡ z.fed + to = omega arith in
    ap (λ (x : Rec). ahead at (walk x (drop at s))) (see_wait k z m a (z.fed + at) p h)
    ∙ waits k z s (to - at) at m.outside (z.fed + at) (omega arith) (omega arith) (λ j x y. d j x (omega arith))
    ∙ (λ i. left_wait k z s (e i) (m.outside + (to - at)) (g i))
    ∙ ap (λ (x : Rec). ahead to (walk x (drop to s))) (sym (see_wait k z (outer m (to - at)) a (z.fed + to) p h))

-- in F the pending bytes are those of the data and two
pub pends_f : (m : Moving) (a : List ℕ) → m.place ≡ 2 → Pends m a → m.pending ≡ length (stuffed (take m.len a)) + 2
unfolding place_of
pends_f m a p h = h ∙ (λ i. pending (state_of (place_of (p i) m.id (take m.len a) m.c1 m.c2)))

pub f_pends : (m : Moving) (a : List ℕ) → m.place ≡ 2 → m.pending ≡ length (stuffed (take m.len a)) + 2 → Pends m a
unfolding place_of
f_pends m a p h = h ∙ (λ i. pending (state_of (place_of (sym p i) m.id (take m.len a) m.c1 m.c2)))

-- bytes of data raise nothing
module _ (k : ℕ) (m : Moving) (a a' s : List ℕ) (at to n : ℕ) (p : m.place ≡ 2) (l : at ≤ to) (r : to ≤ n) (w : n ≤ length s)
    (d : NoDle s at to) (h : Pends m a) where
  pub silent_within : length (take m.len a) ≡ m.len → m.len + (to - at) ≤ 1024
      → take (m.len + (to - at)) a' ≡ take m.len a ++ take (to - at) (drop at s) → Silent k m a (inner m (to - at)) a' s at to n
  silent_within c u v z q =
      let e : at + (to - at) ≡ to = omega arith in
      let g : z.fed + at + (to - at) ≡ z.fed + to = omega arith in
      ap (λ (x : Rec). ahead at (walk x (drop at s))) (see_within k z m a (z.fed + at) p)
      ∙ stores k z s m.id m.outside (to - at) at (take m.len a) m.pending (z.fed + at) (omega arith) (omega arith)
      (λ j x y. d j x (omega arith)) (omega (arith, c)) (pends_f m a p h)
      ∙ (λ i. left_within k z s m.id m.outside (e i) (sym v i) (m.pending + (to - at)) (g i))
      ∙ ap (λ (x : Rec). ahead to (walk x (drop to s))) (sym (see_within k z (inner m (to - at)) a' (z.fed + to) p))

  pub pends_within : take (m.len + (to - at)) a' ≡ take m.len a ++ take (to - at) (drop at s) → Pends (inner m (to - at)) a'
  pends_within v =
      f_pends (inner m (to - at)) a' p
      (let e : length (stuffed (take (m.len + (to - at)) a')) ≡ length (stuffed (take m.len a)) + (to - at) =
      ap (λ x. length (stuffed x)) v
      ∙ ap length (stuffed_append (take m.len a) (take (to - at) (drop at s)))
      ∙ length-append (stuffed (take m.len a)) (stuffed (take (to - at) (drop at s)))
      ∙ ap (λ j. length (stuffed (take m.len a)) + j)
      (stuffed_none k (record { accepted = 0; refused = 0; fed = 0; latest = λ i. mathlib.Core.Option.none }) s (to - at) at (omega arith) (λ j x y. d j x (omega arith))) in
      omega (arith, pends_f m a p h))
