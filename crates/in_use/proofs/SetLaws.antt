-- Laws of a test that holds of some number, and of the word whose bits a test gives.
use mathlib.Core.Path.{◌≡◌, refl, sym, ap, ◌∙◌}
use mathlib.Core.Bool.{Bool, true, false, cond, ◌||◌}
use Prim.Native.Nat.{ℕ, zero, suc, ◌+◌, ◌^◌, ◌≤◌, ◌<◌}
use native.Mathlib.Numerals.{add-one}
use native.Mathlib.Omega.{arith}
use borrow.Author.Tests.{eqb-true, eqb-false}
use lib.Bits.{or_lt}
use lib.Dec.{eqb}
use lib.Pow.{pow-lt}
use Rattle.satellites.specs.Sets.{bit, with_bit}
use Rattle.satellites.proofs.BitLaws.{bit_with, bit_past}
use Rattle.ranges.specs.Ranges.{count}
use Rattle.ranges.proofs.CountLaws.{never, Some, count_some}
use Rattle.in_use.specs.InUse.{any, set_of}

-- 1 where a test holds, else 0
abbrev pub flag : Bool → ℕ
flag t = cond t 1 0

pub any_none : (f : ℕ → Bool) → any 0 f ≡ false
unfolding any
any_none f = refl

pub any_more : (i : ℕ) (f : ℕ → Bool) → any (i + 1) f ≡ (any i f || f i)
unfolding any
any_more i f = rw add-one

-- it holds of some number exactly where it is counted at least once
pub any_counted : (n : ℕ) (f : ℕ → Bool) → any n f ≡ true → 1 ≤ count n f
unfolding any count
any_counted zero f e = absurd (never false e refl)
any_counted (suc n) f e = go (any n f) refl (f n) e (any_counted n f)
  where
    go : (a : Bool) → any n f ≡ a → (b : Bool) → a || b ≡ true → (any n f ≡ true → 1 ≤ count n f) → 1 ≤ count n f + cond b 1 0
    go true p b q ih = omega (arith, ih p)
    go false p true q ih = omega arith
    go false p false q ih = absurd (never false q refl)

pub any_at : (n : ℕ) (f : ℕ → Bool) → any n f ≡ true → Some n f
any_at n f e = count_some n f (any_counted n f e)

pub any_of : (n : ℕ) (f : ℕ → Bool) (i : ℕ) → i < n → f i ≡ true → any n f ≡ true
unfolding any
any_of zero f i l e = absurd (omega arith)
any_of (suc n) f i l e = go (eqb i n) refl (λ k. any_of n f i k e)
  where
    right : (a : Bool) → a || true ≡ true
    right true = refl
    right false = refl

    go : (t : Bool) → eqb i n ≡ t → (i < n → any n f ≡ true) → any n f || f n ≡ true
    go true q ih = let z : f n ≡ true = rw (eqb-true i n q) at e in ap (λ (b : Bool). any n f || b) z ∙ right (any n f)
    go false q ih = let z = eqb-false i n q in ap (λ (b : Bool). b || f n) (ih (omega arith))

-- where it holds of one number at most, that is how many there are
pub any_count : (n : ℕ) (f : ℕ → Bool) → count n f ≤ 1 → flag (any n f) ≡ count n f
any_count n f one = go (any n f) refl
  where
    go : (t : Bool) → any n f ≡ t → flag t ≡ count n f
    go true e = omega (arith, any_counted n f e)
    go false e = none (eqb (count n f) 0) refl
      where
        none : (t : Bool) → eqb (count n f) 0 ≡ t → 0 ≡ count n f
        none true q = omega (arith, eqb-true (count n f) 0 q)
        none false q =
            let z = eqb-false (count n f) 0 q in
            let s = count_some n f (omega arith) in
            absurd (never (any n f) (any_of n f s.index s.below s.holds) e)

-- the word of a test
pub set_lt : (n : ℕ) (f : ℕ → Bool) → set_of n f < 2 ^ n
unfolding set_of with_bit
set_lt zero f = omega arith
set_lt (suc n) f =
    let l : set_of n f < 2 ^ suc n = omega (arith, set_lt n f, pow-lt {i = n} {j = suc n} (omega arith)) in
    go (f n) l
  where
    go : (t : Bool) → set_of n f < 2 ^ suc n → cond t (with_bit (set_of n f) n) (set_of n f) < 2 ^ suc n
    go true l = or_lt (suc n) (set_of n f) (2 ^ n) l (pow-lt (omega arith))
    go false l = l

pub bit_set_of : (n : ℕ) (f : ℕ → Bool) (p : ℕ) → p < n → bit (set_of n f) p ≡ flag (f p)
unfolding set_of
bit_set_of zero f p l = absurd (omega arith)
bit_set_of (suc n) f p l = go (f n) refl (eqb n p) refl (λ k. bit_set_of n f p k)
  where
    past : bit (set_of n f) n ≡ 0
    past = bit_past n (set_of n f) n (set_lt n f) (omega arith)

    go : (t : Bool) → f n ≡ t → (u : Bool) → eqb n p ≡ u → (p < n → bit (set_of n f) p ≡ flag (f p))
        → bit (cond t (with_bit (set_of n f) n) (set_of n f)) p ≡ flag (f p)
    go true e u q ih = bit_with (set_of n f) n p ∙ by u q
      where
        by : (u : Bool) → eqb n p ≡ u → cond (eqb n p) 1 (bit (set_of n f) p) ≡ flag (f p)
        by true q = let z : n ≡ p = eqb-true n p q in let y : f p ≡ true = rw z at e in rw (q, y)
        by false q = let z = eqb-false n p q in rw q (ih (omega arith))
    go false e true q ih = let z : n ≡ p = eqb-true n p q in let y : f p ≡ false = rw z at e in rw y (ap (λ (j : ℕ). bit (set_of n f) j) (sym z) ∙ past)
    go false e false q ih = let z = eqb-false n p q in ih (omega arith)
