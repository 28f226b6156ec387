-- Laws of a set of numbers that is kept as the bits of a word.
use mathlib.Core.Path.{◌≡◌, refl, sym, ap, ◌∙◌}
use mathlib.Core.Bool.{Bool, true, false, cond}
use Prim.Native.Nat.{ℕ, zero, suc, ◌+◌, ◌*◌, ◌/◌, ◌%◌, ◌^◌, ◌≤◌, ◌<◌, suc-le-suc}
use native.Mathlib.Nat.{pow-suc, pow-le-pow_right, div-one, div-eq_of_lt, zero-div, mul-mod_left, mul-div_cancel, zero-lt-suc}
use native.Mathlib.Numerals.{one-add}
use native.Mathlib.Omega.{arith}
use borrow.Author.Tests.{eqb-true, lt-ltb}
use lib.Dec.{eqb, ltb, eqb-suc-zero, eqb-zero-suc, eqb-suc-suc}
use lib.Pow.{shr-shr}
use lib.Bits.{bit_or, or_shr, or_mod, or_zero_l, or_zero_r}
use Rattle.satellites.specs.Sets.{bit, with_bit}

bit_or_lem : (a b p : ℕ) → bit (bit_or a b) p ≡ bit_or (bit a p) (bit b p)
bit_or_lem a b p = ap (λ (t : ℕ). t % 2) (or_shr a b p) ∙ or_mod (a / 2 ^ p) (b / 2 ^ p) 1

bit_half : (a p : ℕ) → bit (a / 2) p ≡ bit a (suc p)
bit_half a p = ap (λ (t : ℕ). t % 2) (shr-shr a 1 p ∙ ap (λ (k : ℕ). a / 2 ^ k) (one-add p))

pub bit_zero : (p : ℕ) → bit 0 p ≡ 0
bit_zero p = ap (λ (t : ℕ). t % 2) (zero-div (2 ^ p))

-- a power of two has one bit
bit_pow : (q p : ℕ) → bit (2 ^ q) p ≡ cond (eqb q p) 1 0
bit_pow zero zero = refl
bit_pow zero (suc p) = rw eqb-zero-suc (sym (bit_half 1 p) ∙ bit_zero p)
bit_pow (suc q) zero = rw (eqb-suc-zero, pow-suc, div-one) (mul-mod_left (2 ^ q) 2)
bit_pow (suc q) (suc p) =
    let e : 2 ^ suc q / 2 ≡ 2 ^ q = ap (λ (t : ℕ). t / 2) (pow-suc 2 q) ∙ mul-div_cancel (2 ^ q) (omega arith) in
    rw eqb-suc-suc (sym (bit_half (2 ^ suc q) p) ∙ ap (λ (t : ℕ). bit t p) e ∙ bit_pow q p)

-- a bit that is set is 1, and no other one changes
pub bit_with : (w q p : ℕ) → bit (with_bit w q) p ≡ cond (eqb q p) 1 (bit w p)
unfolding with_bit
bit_with w q p = bit_or_lem w (2 ^ q) p ∙ ap (bit_or (bit w p)) (bit_pow q p) ∙ go (eqb q p) (bit w p) (omega arith)
  where
    go : (t : Bool) (x : ℕ) → x ≤ 1 → bit_or x (cond t 1 0) ≡ cond t 1 x
    go true zero h = or_zero_l 1
    go true (suc zero) h = refl
    go true (suc (suc x)) h = absurd (omega arith)
    go false x h = or_zero_r x

-- setting a bit that was not set adds one there, and nothing elsewhere
pub bit_set : (w q p : ℕ) → bit w q ≡ 0 → bit (with_bit w q) p ≡ bit w p + cond (eqb q p) 1 0
bit_set w q p z = bit_with w q p ∙ go (eqb q p) refl
  where
    go : (t : Bool) → eqb q p ≡ t → cond t 1 (bit w p) ≡ bit w p + cond t 1 0
    go true e = let y : bit w p ≡ 0 = rw (sym (eqb-true q p e)) z in omega arith
    go false e = omega arith

-- what `insert` gives of a place within the word
pub inserted : (w p : ℕ) → p < 64 → cond (ltb p 64) (with_bit w p) w ≡ with_bit w p
inserted w p l = ap (λ (t : Bool). cond t (with_bit w p) w) (lt-ltb p 64 l)

-- past the end of a word of n bits
pub bit_past : (n w p : ℕ) → w < 2 ^ n → n ≤ p → bit w p ≡ 0
bit_past n w p h l =
    let k : 2 ^ n ≤ 2 ^ p = pow-le-pow_right (omega arith) l in
    let m : w < 2 ^ p = omega arith in
    ap (λ (t : ℕ). t % 2) (div-eq_of_lt m)

-- two words of n bits that agree in each
pub bits_same : (n a b : ℕ) → a < 2 ^ n → b < 2 ^ n → ((p : ℕ) → p < n → bit a p ≡ bit b p) → a ≡ b
bits_same zero a b ha hb h = omega arith
bits_same (suc n) a b ha hb h =
    let ha' : a < 2 ^ n * 2 = rw pow-suc at ha in
    let hb' : b < 2 ^ n * 2 = rw pow-suc at hb in
    let low : a % 2 ≡ b % 2 = rw (div-one a, div-one b) at (h 0 (zero-lt-suc n)) in
    let up : a / 2 ≡ b / 2 =
    bits_same n (a / 2) (b / 2) (omega arith) (omega arith) (λ p k. bit_half a p ∙ h (suc p) (suc-le-suc k) ∙ sym (bit_half b p)) in
    omega arith
