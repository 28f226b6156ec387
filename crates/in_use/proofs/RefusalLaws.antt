-- Laws of question 17: the test of the code, and a bit above 55.
use mathlib.Core.Path.{◌≡◌, refl, sym, ap, ◌∙◌}
use mathlib.Core.Bool.{Bool, true, false, cond}
use mathlib.Core.List.{List}
use Prim.Native.Nat.{ℕ, ◌+◌, ◌/◌, ◌%◌, ◌^◌, ◌<◌}
use native.Mathlib.Omega.{arith}
use borrow.Author.Tests.{eqb-true, eqb-false, eq-eqb, ne_eqb}
use lib.Dec.{eqb}
use lib.Pow.{shr-shr, shr_lt}
use Rattle.octets.specs.Delivery.{refused, written_of, filled_of}
use Rattle.octets.proofs.DeliveryLaws.{refused_by_lem}
use Rattle.satellites.specs.Sets.{bit}
use Rattle.satellites.proofs.BitLaws.{bit_zero, bit_past, bits_same}
use Rattle.ranges.proofs.CountLaws.{fails, never}
use Rattle.in_use.specs.InUse.{any, data_of, refusal_of}
use Rattle.in_use.specs.Meaning.{Above}
use Rattle.in_use.proofs.SetLaws.{any_of, any_at}

pub by_17 : (w : ℕ) → (w / 2 ^ 56 ≡ 0 → ⊥) → refusal_of w ≡ 17
unfolding refusal_of
by_17 w h = ap (λ (t : Bool). cond t 0 17) (ne_eqb (w / 2 ^ 56) 0 h)

pub passes_17 : (w : ℕ) → w / 2 ^ 56 ≡ 0 → refusal_of w ≡ 0
unfolding refusal_of
passes_17 w e = ap (λ (t : Bool). cond t 0 17) (eq-eqb (w / 2 ^ 56) 0 e)

pub refused_17 : (w : ℕ) (b : List ℕ) → (w / 2 ^ 56 ≡ 0 → ⊥)
    → (refused 17 ≡ written_of (refusal_of w) (data_of w) b) × (b ≡ filled_of (refusal_of w) (data_of w) b)
refused_17 w b h =
    let r = refused_by_lem (refusal_of w) (data_of w) b 17 (by_17 w h) (λ z. omega arith) in
    (sym r.0, sym r.1)

-- a word of 64 bits in which none above 55 is set
none_above : (w : ℕ) → w < 2 ^ 64 → ((j : ℕ) → j < 8 → bit w (56 + j) ≡ 0) → w / 2 ^ 56 ≡ 0
none_above w l h =
    bits_same 8 (w / 2 ^ 56) 0 (shr_lt 8 56 l) (omega arith)
    (λ j k. ap (λ (x : ℕ). x % 2) (shr-shr w 56 j) ∙ h j k ∙ sym (bit_zero j))

pub some_above : (w : ℕ) → w < 2 ^ 64 → (w / 2 ^ 56 ≡ 0 → ⊥) → Above w
some_above w l n = go (any 8 test) refl
  where
    test : ℕ → Bool
    test j = eqb (bit w (56 + j)) 1

    go : (t : Bool) → any 8 test ≡ t → Above w
    go true x =
        let s = any_at 8 test x in
        record { place = 56 + s.index; above = omega arith; set = eqb-true (bit w (56 + s.index)) 1 s.holds }
    go false x =
        absurd (n (none_above w l (λ j k.
        let m = eqb-false (bit w (56 + j)) 1 (fails (test j) (λ e. never (any 8 test) (any_of 8 test j k e) x)) in
        omega arith)))

pub not_above : (w : ℕ) → w / 2 ^ 56 ≡ 0 → Above w → ⊥
not_above w e a =
    let m : w < 2 ^ 56 = omega arith in
    omega (arith, bit_past 56 w a.place m a.above, a.set)
