-- Laws of numbers in decimal: the library's digits are those of the text, and what callers use in place of the text.
use mathlib.Core.Path.{◌≡◌, refl, ap, ◌∙◌}
use mathlib.Core.Bool.{Bool, true, false, cond}
use mathlib.Core.List.{List, [], ◌∷◌, ◌++◌}
use Prim.Native.Nat.{ℕ, zero, suc, ◌+◌, ◌-◌, ◌*◌, ◌/◌, ◌%◌, ◌^◌, ◌≤◌, ◌<◌}
use native.Mathlib.Nat.{pow-suc}
use native.Mathlib.Omega.{arith}
use borrow.Author.Tests.{lt-ltb, le-ltb, ltb-true, ltb-false}
use lib.Dec.{ltb}
use lib.ListN.{length, length-append}
use Rattle.std.specs.Fmt.{decimal as library_decimal}
use Rattle.std.proofs.lemmas.Fmt.{decimal_digit, decimal_step_wide}
use Rattle.listing.specs.Text.{space, digit, decimal_in, decimal, decimals, count_digits}

-- by as many divisions as are enough
library_decimal_in : (k n : ℕ) → n ≤ k → n < 10 ^ 64 → library_decimal n ≡ decimal_in k n
unfolding decimal_in
library_decimal_in zero n h b = decimal_digit n (omega arith)
library_decimal_in (suc k) n h b = by (ltb n 10) refl (λ l. library_decimal_in k (n / 10) (omega arith) (omega arith))
  where
    by : (t : Bool) → ltb n 10 ≡ t → (10 ≤ n → library_decimal (n / 10) ≡ decimal_in k (n / 10))
        → library_decimal n ≡ cond t (digit n ∷ []) (decimal_in k (n / 10) ++ (digit (n % 10) ∷ []))
    by true e f = decimal_digit n (ltb-true n 10 e)
    by false e f =
        let l = ltb-false n 10 e in
        decimal_step_wide n l b ∙ ap (λ (s : List ℕ). s ++ (digit (n % 10) ∷ [])) (f l)

pub library_decimal_is : (n : ℕ) → n < 10 ^ 64 → library_decimal n ≡ decimal n
unfolding decimal
library_decimal_is n b = library_decimal_in n n (omega arith) b

-- as many divisions as the number are enough, and more change nothing
enough : (j k n : ℕ) → n ≤ j → n ≤ k → decimal_in j n ≡ decimal_in k n
unfolding decimal_in
enough zero zero n p q = refl
enough zero (suc k) n p q = rw (lt-ltb n 10 (omega arith))
enough (suc j) zero n p q = rw (lt-ltb n 10 (omega arith))
enough (suc j) (suc k) n p q = by (ltb n 10) refl (λ h. enough j k (n / 10) (omega arith) (omega arith))
  where
    by : (t : Bool) → ltb n 10 ≡ t → (10 ≤ n → decimal_in j (n / 10) ≡ decimal_in k (n / 10))
        → cond t (digit n ∷ []) (decimal_in j (n / 10) ++ (digit (n % 10) ∷ []))
        ≡ cond t (digit n ∷ []) (decimal_in k (n / 10) ++ (digit (n % 10) ∷ []))
    by true e f = refl
    by false e f = ap (λ (l : List ℕ). l ++ (digit (n % 10) ∷ [])) (f (ltb-false n 10 e))

-- one digit, and more
pub decimal_small : (n : ℕ) → n < 10 → decimal n ≡ digit n ∷ []
unfolding decimal decimal_in
decimal_small zero h = refl
decimal_small (suc n) h = rw (lt-ltb (suc n) 10 h)

pub decimal_large : (n : ℕ) → 10 ≤ n → decimal n ≡ decimal (n / 10) ++ (digit (n % 10) ∷ [])
unfolding decimal decimal_in
decimal_large zero h = absurd (omega arith)
decimal_large (suc n) h =
    rw (le-ltb (suc n) 10 h) (ap (λ (l : List ℕ). l ++ (digit (suc n % 10) ∷ [])) (enough n (suc n / 10) (suc n / 10) (omega arith) (omega arith)))

large_length : (n : ℕ) → 10 ≤ n → length (decimal n) ≡ length (decimal (n / 10)) + 1
large_length n h = rw (decimal_large n h, length-append)

-- a number below ten to the k has at most k digits
pub decimal_length : (k n : ℕ) → n < 10 ^ suc k → length (decimal n) ≤ suc k
decimal_length zero n h = rw (decimal_small n h) (omega arith)
decimal_length (suc k) n h =
    let p : n < 10 ^ suc k * 10 = rw (pow-suc 10 (suc k)) at h in
    by (ltb n 10) refl (decimal_length k (n / 10) (omega arith))
  where
    by : (t : Bool) → ltb n 10 ≡ t → length (decimal (n / 10)) ≤ suc k → length (decimal n) ≤ suc (suc k)
    by true e l = rw (decimal_small n (ltb-true n 10 e)) (omega arith)
    by false e l = omega (arith, large_length n (ltb-false n 10 e))

-- of a count
pub decimal_short : (n : ℕ) → n < 10 ^ count_digits → length (decimal n) ≤ count_digits
decimal_short n h = decimal_length (count_digits - 1) n h

-- none, and one before the others
pub decimals_nil : decimals [] ≡ []
unfolding decimals
decimals_nil = refl

pub decimals_cons : (n : ℕ) (ns : List ℕ) → decimals (n ∷ ns) ≡ (space ∷ decimal n) ++ decimals ns
unfolding decimals
decimals_cons n ns = refl
