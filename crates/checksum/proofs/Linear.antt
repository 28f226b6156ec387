-- The register's shift is linear over exclusive or. So eight shifts are the low byte moved up, and one entry of the table of what each
-- byte alone leaves from 0: that of the high byte.
use mathlib.Core.Path.{◌≡◌, refl, sym, ap, ap₂, ◌∙◌}
use Prim.Native.Nat.{ℕ, zero, suc, ◌+◌, ◌*◌, ◌/◌, ◌%◌, ◌^◌, ◌<◌}
use native.Mathlib.Nat.{add-zero, zero-mul}
use native.Mathlib.Omega.{arith}
use lib.Arith.{bin_ind}
use lib.Bits.{bit_xor, differ, xor_step, xor_zero_r, xor_comm, xor_mod, xor_shr, xor_block, xor_shifted, xor_self}
use lib.Pow.{pow_pos, split}
use Rattle.checksum.specs.Checksum.{divisor, shifted, shifted_by, after_byte}
use Rattle.checksum.proofs.ChecksumLaws.{shifted_lt}

-- exclusive or of a digit
differ_lt : (x y : ℕ) → x < 2 → y < 2 → differ x y < 2
differ_lt zero y hx hy = hy
differ_lt (suc zero) zero hx hy = hx
differ_lt (suc zero) (suc zero) hx hy = omega arith
differ_lt (suc zero) (suc (suc y)) hx hy = absurd (omega arith)
differ_lt (suc (suc x)) y hx hy = absurd (omega arith)

differ_assoc : (x y z : ℕ) → x < 2 → y < 2 → z < 2 → differ (differ x y) z ≡ differ x (differ y z)
differ_assoc zero y z hx hy hz = refl
differ_assoc (suc zero) zero z hx hy hz = refl
differ_assoc (suc zero) (suc zero) zero hx hy hz = refl
differ_assoc (suc zero) (suc zero) (suc zero) hx hy hz = refl
differ_assoc (suc zero) (suc zero) (suc (suc z)) hx hy hz = absurd (omega arith)
differ_assoc (suc zero) (suc (suc y)) z hx hy hz = absurd (omega arith)
differ_assoc (suc (suc x)) y z hx hy hz = absurd (omega arith)

xor_odd : (a b : ℕ) → bit_xor a b % 2 ≡ differ (a % 2) (b % 2)
xor_odd a b =
    let e : bit_xor a b ≡ bit_xor (a / 2) (b / 2) * 2 + differ (a % 2) (b % 2) = xor_step a b in
    let l : differ (a % 2) (b % 2) < 2 = differ_lt (a % 2) (b % 2) (omega arith) (omega arith) in
    omega arith

xor_assoc : (a b c : ℕ) → bit_xor (bit_xor a b) c ≡ bit_xor a (bit_xor b c)
xor_assoc a =
    bin_ind (λ (n : ℕ). (b c : ℕ) → bit_xor (bit_xor n b) c ≡ bit_xor n (bit_xor b c)) (λ b c. refl)
    (λ n ih b c. xor_step (bit_xor n b) c
    ∙ ap₂ (λ (x y : ℕ). x * 2 + y)
    (ap (λ (x : ℕ). bit_xor x (c / 2)) (xor_shr n b 1) ∙ ih (b / 2) (c / 2) ∙ ap (bit_xor (n / 2)) (sym (xor_shr b c 1)))
    (ap (λ (x : ℕ). differ x (c % 2)) (xor_odd n b)
    ∙ differ_assoc (n % 2) (b % 2) (c % 2) (omega arith) (omega arith) (omega arith)
    ∙ ap (differ (n % 2)) (sym (xor_odd b c)))
    ∙ sym (xor_step n (bit_xor b c))) a

-- the two middle ones of four change places
xor_swap : (a b c d : ℕ) → bit_xor (bit_xor a b) (bit_xor c d) ≡ bit_xor (bit_xor a c) (bit_xor b d)
xor_swap a b c d =
    xor_assoc a b (bit_xor c d)
    ∙ ap (bit_xor a) (sym (xor_assoc b c d) ∙ ap (λ (x : ℕ). bit_xor x d) (xor_comm b c) ∙ xor_assoc c b d)
    ∙ sym (xor_assoc a c (bit_xor b d))

-- n places up
xor_up : (n a b : ℕ) → bit_xor a b * 2 ^ n ≡ bit_xor (a * 2 ^ n) (b * 2 ^ n)
xor_up n a b =
    sym (add-zero (bit_xor a b * 2 ^ n)) ∙ sym (xor_block n a b 0 0 (pow_pos n) (pow_pos n))
    ∙ ap₂ bit_xor (add-zero (a * 2 ^ n)) (add-zero (b * 2 ^ n))

-- the register's shift

digit_up : (p x y : ℕ) → x < 2 → y < 2 → bit_xor x y * p ≡ bit_xor (x * p) (y * p)
digit_up p zero y hx hy = rw (zero-mul p)
digit_up p (suc zero) zero hx hy = rw (zero-mul p, xor_zero_r (1 * p))
digit_up p (suc zero) (suc zero) hx hy = rw (xor_self (1 * p), zero-mul p)
digit_up p (suc zero) (suc (suc y)) hx hy = absurd (omega arith)
digit_up p (suc (suc x)) y hx hy = absurd (omega arith)

shifted_adds : (a b : ℕ) → a < 65536 → b < 65536 → shifted (bit_xor a b) ≡ bit_xor (shifted a) (shifted b)
unfolding shifted
shifted_adds a b ha hb =
    ap₂ bit_xor
    (ap (λ (x : ℕ). x % 65536) (xor_up 1 a b) ∙ xor_mod (a * 2) (b * 2) 16)
    (ap (λ (x : ℕ). x * divisor) (xor_shr a b 15) ∙ digit_up divisor (a / 32768) (b / 32768) (omega arith) (omega arith))
    ∙ xor_swap (a * 2 % 65536) (b * 2 % 65536) (a / 32768 * divisor) (b / 32768 * divisor)

shifts_add : (n a b : ℕ) → a < 65536 → b < 65536 → shifted_by n (bit_xor a b) ≡ bit_xor (shifted_by n a) (shifted_by n b)
unfolding shifted_by
shifts_add zero a b ha hb = refl
shifts_add (suc n) a b ha hb =
    ap (shifted_by n) (shifted_adds a b ha hb) ∙ shifts_add n (shifted a) (shifted b) (shifted_lt a ha) (shifted_lt b hb)

-- no 1 leaves at the top: the places only move up
shifted_low : (a : ℕ) → a < 32768 → shifted a ≡ a * 2
unfolding shifted
shifted_low a h =
    let q : a / 32768 ≡ 0 = omega arith in
    let m : a * 2 % 65536 ≡ a * 2 = omega arith in
    rw (q, m, xor_zero_r)

byte_low : (a : ℕ) → a < 256 → shifted_by 8 a ≡ a * 256
unfolding shifted_by
byte_low a h =
    rw (
      shifted_low a (omega arith),
      shifted_low (a * 2) (omega arith),
      shifted_low (a * 2 * 2) (omega arith),
      shifted_low (a * 2 * 2 * 2) (omega arith),
      shifted_low (a * 2 * 2 * 2 * 2) (omega arith),
      shifted_low (a * 2 * 2 * 2 * 2 * 2) (omega arith),
      shifted_low (a * 2 * 2 * 2 * 2 * 2 * 2) (omega arith),
      shifted_low (a * 2 * 2 * 2 * 2 * 2 * 2 * 2) (omega arith),
    ) (omega arith)

-- a register is its low byte and its high byte
parts : (r : ℕ) → bit_xor (r % 256) (r / 256 * 256) ≡ r
parts r = xor_comm (r % 256) (r / 256 * 256) ∙ xor_shifted (r / 256) 8 (r % 256) (omega arith) ∙ split r 8

-- eight shifts by one entry: the low byte moves up, and the high byte leaves what it leaves alone
by_entry : (r : ℕ) → r < 65536 → bit_xor (r * 256 % 65536) (after_byte 0 (r / 256)) ≡ shifted_by 8 r
unfolding after_byte
by_entry r h =
    let m : r * 256 % 65536 ≡ r % 256 * 256 = omega arith in
    ap (λ (x : ℕ). bit_xor x (shifted_by 8 (r / 256 * 256))) (m ∙ sym (byte_low (r % 256) (omega arith)))
    ∙ sym (shifts_add 8 (r % 256) (r / 256 * 256) (omega arith) (omega arith))
    ∙ ap (shifted_by 8) (parts r)

-- and the next byte comes in, beside the entry
pub next_in : (r b : ℕ) → r < 65536 → b < 256
    → bit_xor (bit_xor r b * 256 % 65536) (after_byte 0 (r / 256)) ≡ bit_xor (shifted_by 8 r) (b * 256)
next_in r b hr hb =
    let e = after_byte 0 (r / 256) in
    let m : b * 256 % 65536 ≡ b * 256 = omega arith in
    ap (λ (x : ℕ). bit_xor (x % 65536) e) (xor_up 8 r b)
    ∙ ap (λ (x : ℕ). bit_xor x e) (xor_mod (r * 256) (b * 256) 16 ∙ ap (bit_xor (r * 256 % 65536)) m)
    ∙ xor_assoc (r * 256 % 65536) (b * 256) e
    ∙ ap (bit_xor (r * 256 % 65536)) (xor_comm (b * 256) e)
    ∙ sym (xor_assoc (r * 256 % 65536) e (b * 256))
    ∙ ap (λ (x : ℕ). bit_xor x (b * 256)) (by_entry r hr)
