-- Laws of signed numbers, once over the width: the two readings are inverse, they are the language's own, and the ways in
-- which the code goes from one to the other give them.
use mathlib.Core.Path.{◌≡◌, refl, ap, ◌∙◌}
use mathlib.Core.Bool.{Bool, true, false, cond}
use Prim.Native.Nat.{ℕ, zero, suc, ◌-◌, ◌*◌, ◌^◌, ◌≤◌, ◌<◌}
use native.Mathlib.Nat.{pow-suc}
use native.Mathlib.Omega.{arith}
use borrow.Author.Tests.{lt-ltb, le-ltb}
use lib.Dec.{ltb}
use lib.IntN.{ℤ, pos, negsuc}
use lib.Signed.{mag}
use mir.Syntax.{Width}
use mir.Val.{to_z, of_z, sel, bits, hbits}
use mir.ValLaws.{bits-suc}
use Rattle.numbers.specs.Signed.{signed, unsigned}

-- the upper half is less 2 ^ n
upper : (n b : ℕ) → 2 ^ (n - 1) ≤ b → signed n b ≡ negsuc (2 ^ n - 1 - b)
unfolding signed
upper n b h = rw (le-ltb b (2 ^ (n - 1)) h)

pub signed_unsigned : (n : ℕ) (z : ℤ) → 0 < n → mag z < 2 ^ (n - 1) → signed n (unsigned n z) ≡ z
unfolding signed unsigned
signed_unsigned zero z p h = absurd (omega arith)
signed_unsigned (suc n) (pos x) p h = rw (lt-ltb x (2 ^ (suc n - 1)) h)
signed_unsigned (suc n) (negsuc x) p h =
    let e : suc n - 1 ≡ n = omega arith in
    let two : 2 ^ suc n ≡ 2 ^ n * 2 = pow-suc 2 n in
    let k : x < 2 ^ n = rw e at h in
    let up : 2 ^ (suc n - 1) ≤ 2 ^ suc n - 1 - x = rw e (omega arith) in
    let back : 2 ^ suc n - 1 - (2 ^ suc n - 1 - x) ≡ x = omega arith in
    upper (suc n) (2 ^ suc n - 1 - x) up ∙ ap negsuc back

pub unsigned_signed : (n b : ℕ) → b < 2 ^ n → unsigned n (signed n b) ≡ b
unfolding signed unsigned
unsigned_signed n b h = go (ltb b (2 ^ (n - 1)))
  where
    go : (t : Bool) → unsigned n (cond t (pos b) (negsuc (2 ^ n - 1 - b))) ≡ b
    go true = refl
    go false = omega arith

-- the language's own readings of as many bits
pub signed_is : (w : Width) (b : ℕ) → signed (bits w) b ≡ to_z w b
unfolding signed
signed_is w b =
    let e : bits w - 1 ≡ hbits w = omega (arith, bits-suc w) in
    rw e (go (ltb b (2 ^ hbits w)))
  where
    go : (t : Bool) → cond t (pos b) (negsuc (2 ^ bits w - 1 - b)) ≡ sel t (pos b) (negsuc (2 ^ bits w - suc b))
    go true = refl
    go false = ap negsuc (omega arith)

pub unsigned_is : (w : Width) (z : ℤ) → unsigned (bits w) z ≡ of_z w z
unfolding unsigned
unsigned_is w (pos x) = refl
unsigned_is w (negsuc x) = omega arith
