-- A zone in range, its sizes and signs, and what is left of a second when it is subtracted.
use mathlib.Core.Path.{◌≡◌, sym, ap, ◌∙◌}
use mathlib.Core.Bool.{true, cond, ◌&&◌, and-eq-true_iff}
use Prim.Native.Nat.{ℕ, zero, suc, ◌+◌, ◌-◌, ◌*◌, ◌≤◌}
use native.Mathlib.Omega.{arith}
use borrow.Author.Tests.{le-ltb, leb-true}
use lib.Dec.{leb}
use lib.IntN.{ℤ, pos, negsuc, neg_ℤ, nat_abs, ◌+ℤ◌, ◌-ℤ◌, ◌*ℤ◌, +ℤ_assoc, neg_ℤ-+ℤ, neg_ℤ-neg_ℤ}
use lib.Signed.{le_z}
use Rattle.ranges.specs.Ranges.{zone}
use Rattle.dates.specs.UtcTime.{negative, zone_seconds}

-- ---- sizes

size_le : (n : ℕ) (z : ℤ) → le_z (negsuc n) z && le_z z (pos (suc n)) ≡ true → nat_abs z ≤ suc n
size_le n (pos x) e = leb-true x (suc n) e
size_le n (negsuc x) e = let h = leb-true x n ((and-eq-true_iff (leb x n) true).0 e).0 in omega arith

pub record Sizes (hours minutes : ℤ) : Type 0 where
  pub hours_le : nat_abs hours ≤ 13
  pub minutes_le : nat_abs minutes ≤ 59

pub sizes : (hours minutes : ℤ) → zone hours minutes ≡ true → Sizes hours minutes
sizes h m e =
    let b = (and-eq-true_iff (le_z (negsuc 12) h && le_z h (pos 13)) (le_z (negsuc 58) m && le_z m (pos 59))).0 e in
    record { hours_le = size_le 12 h b.0; minutes_le = size_le 58 m b.1 }

-- ---- what is left

minus_pos : (t y : ℕ) → y ≤ t → pos t -ℤ pos y ≡ pos (t - y)
minus_pos t zero h = ap pos (omega arith)
minus_pos t (suc y) h = rw (le-ltb t (suc y) h)

-- r is t less z units of u seconds, by size and sign
pub record Less (t u : ℕ) (z : ℤ) (r : ℕ) : Type 0 where
  pub is : pos r ≡ pos t -ℤ pos u *ℤ z
  pub above : t ≤ r + u * nat_abs z
  pub below : r ≤ t + u * nat_abs z

pub lessened : (t u n : ℕ) (z : ℤ) (r : ℕ) → n ≡ nat_abs z → u * n ≤ t → r ≡ cond (negative z) (t + u * n) (t - u * n) → Less t u z r
lessened t u n z r s h e = go z r (ap (λ (i : ℕ). u * i) s) e
  where
    go : (y : ℤ) (r : ℕ) → u * n ≡ u * nat_abs y → r ≡ cond (negative y) (t + u * n) (t - u * n) → Less t u y r
    go (pos x) r m e =
        record { is = ap pos (e ∙ ap (λ (i : ℕ). t - i) m) ∙ sym (minus_pos t (u * x) (omega arith)); above = omega arith; below = omega arith }
    go (negsuc x) r m e =
        record {
          is = ap pos (e ∙ ap (λ (i : ℕ). t + i) m) ∙ ap (λ (y : ℤ). pos t +ℤ y) (sym (neg_ℤ-neg_ℤ (pos (u * suc x))));
          above = omega arith;
          below = omega arith;
        }

minus_both : (a b c : ℤ) → a -ℤ b -ℤ c ≡ a -ℤ (b +ℤ c)
minus_both a b c = +ℤ_assoc a (neg_ℤ b) (neg_ℤ c) ∙ ap (λ (y : ℤ). a +ℤ y) (sym (neg_ℤ-+ℤ b c))

pub zone_less : (local by-hours r : ℕ) (hours minutes : ℤ) → pos by-hours ≡ pos local -ℤ pos 3600 *ℤ hours
    → pos r ≡ pos by-hours -ℤ pos 60 *ℤ minutes → pos r ≡ pos local -ℤ zone_seconds hours minutes
zone_less local by-hours r hours minutes p q =
    q ∙ ap (λ (y : ℤ). y -ℤ pos 60 *ℤ minutes) p ∙ minus_both (pos local) (pos 3600 *ℤ hours) (pos 60 *ℤ minutes)
