-- How large a difference, a sum and a product of integers and an INT16S can be, and what is small enough for 32 bits.
use mathlib.Core.Path.{◌≡◌, refl}
use mathlib.Core.Bool.{Bool, true, false, cond}
use Prim.Native.Nat.{ℕ, zero, suc, ◌+◌, ◌-◌, ◌*◌, ◌^◌, ◌≤◌, ◌<◌}
use native.Mathlib.Nat.{le_refl}
use native.Mathlib.Omega.{arith}
use borrow.Author.Tests.{ltb-true, ltb-false}
use lib.Dec.{ltb}
use lib.IntN.{ℤ, pos, negsuc, neg_ℤ, nat_abs, sub_ℕ, ◌+ℤ◌, ◌-ℤ◌, ◌*ℤ◌}
use mir.Syntax.{w32}
use mir.Val.{SFits}
use Rattle.numbers.specs.Signed.{signed, int16}

-- two numbers neither of which is more than k above the other
apart : (a b k : ℕ) → a ≤ b + k → b ≤ a + k → nat_abs (sub_ℕ a b) ≤ k
apart a b k h g = go (ltb a b) refl
  where
    go : (t : Bool) → ltb a b ≡ t → nat_abs (cond t (negsuc (b - suc a)) (pos (a - b))) ≤ k
    go true e = omega (arith, ltb-true a b e)
    go false e = omega (arith, ltb-false a b e)

pub minus_size : (a b k : ℕ) → a ≤ b + k → b ≤ a + k → nat_abs (pos a -ℤ pos b) ≤ k
minus_size a zero k h g = omega arith
minus_size a (suc b) k h g = apart a (suc b) k h g

pub plus_size : (x y : ℤ) → nat_abs (x +ℤ y) ≤ nat_abs x + nat_abs y
plus_size (pos a) (pos b) = le_refl (a + b)
plus_size (pos a) (negsuc b) = apart a (suc b) (a + suc b) (omega arith) (omega arith)
plus_size (negsuc a) (pos b) = apart b (suc a) (suc a + b) (omega arith) (omega arith)
plus_size (negsuc a) (negsuc b) = omega arith

negated : (n : ℕ) → nat_abs (neg_ℤ (pos n)) ≡ n
negated zero = refl
negated (suc n) = refl

pub times_size : (x y : ℤ) → nat_abs (x *ℤ y) ≡ nat_abs x * nat_abs y
times_size (pos a) (pos b) = refl
times_size (pos a) (negsuc b) = negated (a * suc b)
times_size (negsuc a) (pos b) = negated (suc a * b)
times_size (negsuc a) (negsuc b) = refl

pub fits_32 : (z : ℤ) → nat_abs z < 2 ^ 31 → SFits w32 z
fits_32 (pos n) h = record { sfits = h }
fits_32 (negsuc n) h = record { sfits = omega arith }

pub int16_size : (v : ℕ) → nat_abs (int16 v) ≤ 32768
unfolding signed
int16_size v = go (ltb v 32768) refl
  where
    go : (t : Bool) → ltb v 32768 ≡ t → nat_abs (cond t (pos v) (negsuc (65535 - v))) ≤ 32768
    go true e = omega (arith, ltb-true v 32768 e)
    go false e = omega (arith, ltb-false v 32768 e)
