-- Floats: which are finite; that the float of a small integer is that integer; and what is no NaN.
use mathlib.Core.Path.{◌≡◌, refl, sym, ap, ◌∙◌}
use mathlib.Core.Bool.{Bool, true, false, not, cond, ◌&&◌, beq, true≢false}
use Prim.Native.Nat.{ℕ, zero, suc, ◌+◌, ◌-◌, ◌*◌, ◌/◌, ◌%◌, ◌^◌, ◌≤◌, compare}
use lib.Dec.{T, ltb}
use lib.IntN.{ℤ, pos, negsuc, nat_abs}
use lib.Ieee.{Float, nan, inf, fin, binary64, up, down, unlike, size, nearest, odd, units, round, sum, add, mul, of_int, of_bits, is_nan, nan_bits}
use lib.Ieee.Back.{round_whole}
use lib.Ieee.Bits.{nan_bits_is}
use lib.Ieee.Exact.{HasValue}
use lib.Ieee.Fits.{round_is}
use lib.Ieee.Scale.{finite}
use Rattle.std.specs.Float.{float_is_finite}
use Rattle.utc.specs.Offset.{polynomial}
use Rattle.utc.specs.Meaning.{IsInteger}

odd_finite : (d : ℕ) (s : Bool) (q k l : ℕ) → finite (odd d s q k l) ≡ true
unfolding odd
odd_finite d s zero k l = refl
odd_finite d s (suc q) k l = refl

-- the library's test of a float
pub finite_is : (x : Float) → float_is_finite x ≡ finite x
unfolding float_is_finite
finite_is nan = refl
finite_is (inf s) = refl
finite_is (fin s m e) = refl

pub finite_number : (x : Float) → finite x ≡ true → is_nan x ≡ false
unfolding is_nan
finite_number nan e = absurd (true≢false (sym e))
finite_number (inf s) e = refl
finite_number (fin s m e) h = refl

-- bits of which a float is made
pub finite_pattern : (n : ℕ) → finite (of_bits binary64 n) ≡ true → T (not (nan_bits binary64 n))
finite_pattern n h = rw (nan_bits_is binary64 n, finite_number (of_bits binary64 n) h) tt

pub integer : (z : ℤ) → nat_abs z ≤ 2 ^ 53 → IsInteger (of_int binary64 z) z
unfolding of_int
integer (pos n) h = round_whole binary64 false n h
integer (negsuc n) h = round_whole binary64 true (suc n) h

value_finite : (x : Float) (s : Bool) (a c : ℕ) → HasValue x s a c → finite x ≡ true
value_finite nan s a c v = absurd v
value_finite (inf t) s a c v = absurd v
value_finite (fin t m e) s a c v = refl

pub integer_finite : (x : Float) (z : ℤ) → IsInteger x z → finite x ≡ true
integer_finite x (pos n) v = value_finite x false n 1 v
integer_finite x (negsuc n) v = value_finite x true (suc n) 1 v

-- no operation on numbers makes a NaN, but for an infinity and its negative
units_number : (s : Bool) (q k : ℕ) → is_nan (units binary64 s q k) ≡ false
unfolding units is_nan
units_number s q k = go (ltb (q * 2 ^ k) (2 ^ 2098))
  where
    go : (t : Bool) → is_nan (cond t (odd 54 s q k 1074) (inf s)) ≡ false
    go true = finite_number (odd 54 s q k 1074) (odd_finite 54 s q k 1074)
    go false = refl

round_number : (s : Bool) (a c : ℕ) → is_nan (round binary64 s a c) ≡ false
round_number s a c =
    let n = a * 2 ^ 1074 in
    let k = size (n / c) - 53 in
    let u = c * 2 ^ k in
    ap is_nan (round_is binary64 s a c) ∙ units_number s (nearest (n / u) (compare (n % u * 2) u)) k

sum_number : (s : Bool) (a : ℕ) (t : Bool) (b c : ℕ) → is_nan (sum binary64 s a t b c) ≡ false
unfolding sum
sum_number s a t b c = go (beq s t) (ltb a b)
  where
    go : (e l : Bool) → is_nan (cond e (round binary64 s (a + b) c) (cond l (round binary64 t (b - a) c) (round binary64 (s && ltb b a) (a - b) c))) ≡ false
    go true l = round_number s (a + b) c
    go false true = round_number t (b - a) c
    go false false = round_number (s && ltb b a) (a - b) c

add_number : (x y : Float) → is_nan x ≡ false → finite y ≡ true → is_nan (add binary64 x y) ≡ false
unfolding add is_nan
add_number nan y h f = absurd (true≢false h)
add_number (inf s) nan h f = absurd (true≢false (sym f))
add_number (inf s) (inf t) h f = absurd (true≢false (sym f))
add_number (inf s) (fin t n d) h f = refl
add_number (fin s m e) nan h f = absurd (true≢false (sym f))
add_number (fin s m e) (inf t) h f = absurd (true≢false (sym f))
add_number (fin s m e) (fin t n d) h f = sum_number s (m * up e * down d) t (n * up d * down e) (down e * down d)

mul_number : (x y : Float) → finite x ≡ true → finite y ≡ true → is_nan (mul binary64 x y) ≡ false
unfolding mul
mul_number nan y h f = absurd (true≢false (sym h))
mul_number (inf s) y h f = absurd (true≢false (sym h))
mul_number (fin s m e) nan h f = absurd (true≢false (sym f))
mul_number (fin s m e) (inf t) h f = absurd (true≢false (sym f))
mul_number (fin s m e) (fin t n d) h f = round_number (unlike s t) (m * up e * (n * up d)) (down e * down d)

pub polynomial_number : (a0 a1 : Float) (dt leap : ℤ) → finite a0 ≡ true → finite a1 ≡ true → nat_abs dt ≤ 2 ^ 53 → nat_abs leap ≤ 2 ^ 53
    → is_nan (polynomial a0 a1 dt leap) ≡ false
unfolding polynomial
polynomial_number a0 a1 dt leap f0 f1 d l =
    let product = mul binary64 a1 (of_int binary64 dt) in
    let p = mul_number a1 (of_int binary64 dt) f1 (integer_finite (of_int binary64 dt) dt (integer dt d)) in
    add_number (add binary64 product a0) (of_int binary64 leap) (add_number product a0 p f0)
    (integer_finite (of_int binary64 leap) leap (integer leap l))
