-- Where A0 and A1 are zero, of either sign, the polynomial is the leap count.
use mathlib.Core.Path.{◌≡◌, refl, sym, ap, ◌∙◌}
use mathlib.Core.Bool.{Bool, true, false, true≢false}
use Prim.Native.Nat.{ℕ, zero, suc, ◌*◌, ◌^◌, ◌≤◌, ◌<◌}
use native.Mathlib.Nat.{mul-one, one-mul, zero-mul, zero-add, sub-zero, mul-pos, zero-lt-suc}
use native.Mathlib.Omega.{arith}
use borrow.Author.Tests.{lt-ltb}
use lib.IntN.{ℤ, pos, negsuc, nat_abs}
use lib.Ieee.{Float, nan, inf, fin, binary64, up, down, unlike, round, sum, add, mul, of_int, of_bits}
use lib.Ieee.Exact.{HasValue}
use lib.Ieee.Fits.{down_pos}
use lib.Ieee.Back.{round_whole}
use lib.Ieee.Scale.{round_same, finite}
use Rattle.utc.specs.Offset.{polynomial}
use Rattle.utc.proofs.FloatLaws.{integer, integer_finite}

-- a zero of either sign
abbrev pub zero_of : Bool → Float
zero_of s = fin s 0 (pos 0)

pub plus_zero_bits : of_bits binary64 0 ≡ zero_of false
unfolding of_bits
plus_zero_bits = refl

pub minus_zero_bits : of_bits binary64 (2 ^ 63) ≡ zero_of true
unfolding of_bits
minus_zero_bits = refl

round_zero : (s : Bool) (c : ℕ) → 0 < c → round binary64 s 0 c ≡ zero_of s
unfolding round
round_zero s c h = round_same binary64 s 0 c 0 1 h (omega arith) (omega arith) ∙ at_one s
  where
    at_one : (t : Bool) → round binary64 t 0 1 ≡ zero_of t
    at_one true = refl
    at_one false = refl

mul_zero : (s : Bool) (y : Float) → finite y ≡ true → (t : Bool) × (mul binary64 (zero_of s) y ≡ zero_of t)
unfolding mul
mul_zero s nan f = absurd (true≢false (sym f))
mul_zero s (inf t) f = absurd (true≢false (sym f))
mul_zero s (fin t n d) f = (
  unlike s t,
  ap (λ (k : ℕ). round binary64 (unlike s t) k (1 * down d)) (zero-mul (n * up d))
      ∙ round_zero (unlike s t) (1 * down d) (mul-pos (omega arith) (down_pos d)),
)

add_zeros : (s t : Bool) → (u : Bool) × (add binary64 (zero_of s) (zero_of t) ≡ zero_of u)
unfolding add
add_zeros true true = (true, refl)
add_zeros true false = (false, refl)
add_zeros false true = (false, refl)
add_zeros false false = (false, refl)

sum_zero : (s t : Bool) (b c : ℕ) → 0 < b → sum binary64 s 0 t b c ≡ round binary64 t b c
unfolding sum
sum_zero true true b c h = ap (λ (k : ℕ). round binary64 true k c) (zero-add b)
sum_zero false false b c h = ap (λ (k : ℕ). round binary64 false k c) (zero-add b)
sum_zero true false b c h = rw (lt-ltb 0 b h) (ap (λ (k : ℕ). round binary64 false k c) (sub-zero b))
sum_zero false true b c h = rw (lt-ltb 0 b h) (ap (λ (k : ℕ). round binary64 true k c) (sub-zero b))

-- a zero and a number that is n, which is not 0
add_whole : (s t : Bool) (n : ℕ) (y : Float) → 0 < n → HasValue y t n 1 → add binary64 (zero_of s) y ≡ round binary64 t n 1
unfolding add
add_whole s t n nan h v = absurd v
add_whole s t n (inf u) h v = absurd v
add_whole s t n (fin u m e) h v =
    let value : m * up e * 1 ≡ n * down e = v.1 in
    let above : 0 < m * up e * 1 = rw value (mul-pos h (down_pos e)) in
    let same : m * up e * 1 * 1 ≡ n * (1 * down e) = mul-one (m * up e * 1) ∙ value ∙ ap (λ (k : ℕ). n * k) (sym (one-mul (down e))) in
    ap (λ (a : ℕ). sum binary64 s a u (m * up e * 1) (1 * down e)) (zero-mul (down e))
    ∙ sum_zero s u (m * up e * 1) (1 * down e) above
    ∙ ap (λ (b : Bool). round binary64 b (m * up e * 1) (1 * down e)) v.0
    ∙ round_same binary64 t (m * up e * 1) (1 * down e) n 1 (mul-pos (omega arith) (down_pos e)) (omega arith) same

add_integer : (s : Bool) (z : ℤ) → nat_abs z ≤ 2 ^ 53 → add binary64 (zero_of s) (of_int binary64 z) ≡ of_int binary64 z
unfolding of_int add
add_integer true (pos zero) h = refl
add_integer false (pos zero) h = refl
add_integer s (pos (suc n)) h = add_whole s false (suc n) (round binary64 false (suc n) 1) (zero-lt-suc n) (round_whole binary64 false (suc n) h)
add_integer s (negsuc n) h = add_whole s true (suc n) (round binary64 true (suc n) 1) (zero-lt-suc n) (round_whole binary64 true (suc n) h)

pub leap_alone : (s t : Bool) (dt leap : ℤ) → nat_abs dt ≤ 2 ^ 53 → nat_abs leap ≤ 2 ^ 53 → polynomial (zero_of s) (zero_of t) dt leap ≡ of_int binary64 leap
unfolding polynomial
leap_alone s t dt leap d l =
    let p = mul_zero t (of_int binary64 dt) (integer_finite (of_int binary64 dt) dt (integer dt d)) in
    let q = add_zeros p.0 s in
    ap (λ (x : Float). add binary64 (add binary64 x (zero_of s)) (of_int binary64 leap)) p.1
    ∙ ap (λ (x : Float). add binary64 x (of_int binary64 leap)) q.1
    ∙ add_integer q.0 leap l
