-- Laws of what holds of the numbers below n, and of how many it holds.
use mathlib.Core.Path.{◌≡◌, refl, ap, ap₂, ◌∙◌}
use mathlib.Core.Bool.{Bool, true, false, cond, ◌&&◌, and-eq-true_iff}
use Prim.Native.Nat.{ℕ, zero, suc, ◌+◌, ◌≤◌, ◌<◌}
use native.Mathlib.Numerals.{add-one}
use native.Mathlib.Omega.{arith}
use borrow.Author.Tests.{eqb-true, eqb-false, ne_eqb, ltb-true, ltb-false}
use lib.Dec.{eqb, ltb}
use Rattle.ranges.specs.Ranges.{all, count}

-- a test that can't hold fails; it can't both hold and fail
pub fails : (b : Bool) → (b ≡ true → ⊥) → b ≡ false
fails true h = absurd (h refl)
fails false h = refl

pub never : (b : Bool) → b ≡ true → b ≡ false → ⊥
never b p q = let z : ◌≡◌ {A = ℕ} 0 1 = cc in omega arith

-- what holds below n, and at n, holds below suc n
last : (P : ℕ → Type 0) (n i : ℕ) → i < suc n → (i < n → P i) → P n → P i
last P n i h below at = go (eqb i n) refl
  where
    go : (t : Bool) → eqb i n ≡ t → P i
    go true e = rw (eqb-true i n e) at
    go false e = let q = eqb-false i n e in below (omega arith)

-- all
pub all_at : (n : ℕ) (f : ℕ → Bool) → all n f ≡ true → (i : ℕ) → i < n → f i ≡ true
unfolding all
all_at zero f e i h = absurd (omega arith)
all_at (suc n) f e i h =
    let b = (and-eq-true_iff (all n f) (f n)).0 e in
    last (λ k. f k ≡ true) n i h (λ l. all_at n f b.0 i l) b.1

pub all_of : (n : ℕ) (f : ℕ → Bool) → ((i : ℕ) → i < n → f i ≡ true) → all n f ≡ true
unfolding all
all_of zero f h = refl
all_of (suc n) f h = (and-eq-true_iff (all n f) (f n)).1 (all_of n f (λ i l. h i (omega arith)), h n (omega arith))

-- count
pub count_more : (f : ℕ → Bool) (i : ℕ) → count (i + 1) f ≡ count i f + cond (f i) 1 0
unfolding count
count_more f i = rw add-one

pub count_same : (n : ℕ) (f g : ℕ → Bool) → ((i : ℕ) → i < n → f i ≡ g i) → count n f ≡ count n g
unfolding count
count_same zero f g h = refl
count_same (suc n) f g h = rw (count_same n f g (λ i l. h i (omega arith)), h n (omega arith))

pub count_le : (i n : ℕ) (f : ℕ → Bool) → i ≤ n → count i f ≤ count n f
unfolding count
count_le i zero f h = let e : i ≡ 0 = omega arith in rw e (omega arith)
count_le i (suc n) f h = last (λ k. count k f ≤ count (suc n) f) (suc n) i (omega arith) (λ l. omega (arith, count_le i n f (omega arith))) (omega arith)

-- a number below n of which it holds
pub record Some (n : ℕ) (f : ℕ → Bool) : Type 0 where
  pub index : ℕ
  pub below : index < n
  pub holds : f index ≡ true

pub count_some : (n : ℕ) (f : ℕ → Bool) → 1 ≤ count n f → Some n f
unfolding count
count_some zero f h = absurd (omega arith)
count_some (suc n) f h = go (f n) refl h (count_some n f)
  where
    go : (t : Bool) → f n ≡ t → 1 ≤ count n f + cond t 1 0 → (1 ≤ count n f → Some n f) → Some (suc n) f
    go true e k ih = record { index = n; below = omega arith; holds = e }
    go false e k ih = let s = ih (omega arith) in record { index = s.index; below = omega (arith, s.below); holds = s.holds }

count_at : (f : ℕ → Bool) (i : ℕ) → f i ≡ true → count (i + 1) f ≡ count i f + 1
count_at f i e = count_more f i ∙ ap (λ (t : Bool). count i f + cond t 1 0) e

-- it holds of one number at most: any two of which it holds are one
pub count_one : (n : ℕ) (f : ℕ → Bool) → count n f ≤ 1 → (i j : ℕ) → i < n → j < n → f i ≡ true → f j ≡ true → i ≡ j
count_one n f one i j k l p q = go (ltb i j) refl (ltb j i) refl
  where
    twice : (a b : ℕ) → a < b → b < n → f a ≡ true → f b ≡ true → ⊥
    twice a b m o x y =
        omega (arith, count_at f a x, count_at f b y, count_le (a + 1) b f (omega arith), count_le (b + 1) n f (omega arith))

    go : (t : Bool) → ltb i j ≡ t → (u : Bool) → ltb j i ≡ u → i ≡ j
    go true x u y = absurd (twice i j (ltb-true i j x) l p q)
    go false x true y = absurd (twice j i (ltb-true j i y) k q p)
    go false x false y = let a = ltb-false i j x in let b = ltb-false j i y in omega arith

pub count_apart : (n : ℕ) (f : ℕ → Bool) → ((i j : ℕ) → i < n → j < n → f i ≡ true → f j ≡ true → i ≡ j) → count n f ≤ 1
unfolding count
count_apart zero f h = omega arith
count_apart (suc n) f h = go (f n) refl (ltb 0 (count n f)) refl (count_apart n f (λ i j k l. h i j (omega arith) (omega arith)))
  where
    go : (t : Bool) → f n ≡ t → (u : Bool) → ltb 0 (count n f) ≡ u → count n f ≤ 1 → count n f + cond t 1 0 ≤ 1
    go true e true q ih =
        let s = count_some n f (ltb-true 0 (count n f) q) in
        let z : s.index ≡ n = h s.index n (omega (arith, s.below)) (omega arith) s.holds e in
        absurd (omega (arith, s.below))
    go true e false q ih = omega (arith, ltb-false 0 (count n f) q)
    go false e u q ih = omega arith

count_all : (n : ℕ) → count n (λ i. true) ≡ n
unfolding count
count_all zero = refl
count_all (suc n) = ap (λ (k : ℕ). k + 1) (count_all n) ∙ add-one n

-- the sum of g 0 .. g (n - 1)
unfoldable pub sum : ℕ → (ℕ → ℕ) → ℕ
sum zero g = 0
sum (suc n) g = sum n g + g n

pub sum_same : (n : ℕ) (g h : ℕ → ℕ) → ((p : ℕ) → p < n → g p ≡ h p) → sum n g ≡ sum n h
unfolding sum
sum_same zero g h e = refl
sum_same (suc n) g h e = rw (sum_same n g h (λ p l. e p (omega arith)), e n (omega arith))

sum_add : (n : ℕ) (g h : ℕ → ℕ) → sum n (λ p. g p + h p) ≡ sum n g + sum n h
unfolding sum
sum_add zero g h = refl
sum_add (suc n) g h = omega (arith, sum_add n g h)

sum_zero : (n : ℕ) (g : ℕ → ℕ) → ((p : ℕ) → p < n → g p ≡ 0) → sum n g ≡ 0
unfolding sum
sum_zero zero g h = refl
sum_zero (suc n) g h = omega (arith, sum_zero n g (λ p l. h p (omega arith)), h n (omega arith))

-- a number below m equals one of the numbers below m
sum_one : (m x : ℕ) → x < m → sum m (λ p. cond (eqb x p) 1 0) ≡ 1
unfolding sum
sum_one zero x h = absurd (omega arith)
sum_one (suc m) x h = go (eqb x m) refl (λ l. sum_one m x l)
  where
    ones : ℕ → ℕ
    ones p = cond (eqb x p) 1 0

    go : (t : Bool) → eqb x m ≡ t → (x < m → sum m ones ≡ 1) → sum m ones + cond t 1 0 ≡ 1
    go true e ih =
        omega (arith, sum_zero m ones (λ p l. let q : x ≡ p → ⊥ = λ z. omega (arith, eqb-true x m e) in rw (ne_eqb x p q)))
    go false e ih = let q = eqb-false x m e in let l : x < m = omega arith in omega (arith, ih l)

-- n numbers below m, some of which pass a test: how often each occurs among these adds up to how many they are
pub sum_counts : (m n : ℕ) (test : ℕ → Bool) (f : ℕ → ℕ) → ((j : ℕ) → j < n → f j < m)
    → sum m (λ p. count n (λ j. test j && eqb (f j) p)) ≡ count n test
unfolding count
sum_counts m zero test f h = sum_zero m (λ p. 0) (λ p l. refl)
sum_counts m (suc n) test f h =
    sum_add m (λ p. count n (λ j. test j && eqb (f j) p)) (λ p. cond (test n && eqb (f n) p) 1 0)
    ∙ ap₂ (λ (x y : ℕ). x + y) (sum_counts m n test f (λ j l. h j (omega arith))) (go (test n))
  where
    go : (t : Bool) → sum m (λ p. cond (t && eqb (f n) p) 1 0) ≡ cond t 1 0
    go true = sum_one m (f n) (h n (omega arith))
    go false = sum_zero m (λ p. 0) (λ p l. refl)

sum_le : (m : ℕ) (g : ℕ → ℕ) → ((p : ℕ) → p < m → g p ≤ 1) → sum m g ≤ m
unfolding sum
sum_le zero g h = omega arith
sum_le (suc m) g h = omega (arith, sum_le m g (λ p l. h p (omega arith)), h m (omega arith))

-- m numbers of at most 1 that add up to m are each 1
sum_full : (m : ℕ) (g : ℕ → ℕ) → ((p : ℕ) → p < m → g p ≤ 1) → sum m g ≡ m → (p : ℕ) → p < m → g p ≡ 1
unfolding sum
sum_full zero g h e p l = absurd (omega arith)
sum_full (suc m) g h e p l =
    let below : (q : ℕ) → q < m → g q ≤ 1 = λ q k. h q (omega arith) in
    let most = sum_le m g below in
    let at = h m (omega arith) in
    last (λ q. g q ≡ 1) m p l (λ k. sum_full m g below (omega arith) p k) (omega arith)

-- n numbers below n, none twice: each occurs once
pub each_once : (n : ℕ) (f : ℕ → ℕ) → ((j : ℕ) → j < n → f j < n) → ((p : ℕ) → count n (λ j. eqb (f j) p) ≤ 1)
    → (p : ℕ) → p < n → count n (λ j. eqb (f j) p) ≡ 1
each_once n f h m = sum_full n (λ p. count n (λ j. eqb (f j) p)) (λ p l. m p) (sum_counts n n (λ j. true) f h ∙ count_all n)
