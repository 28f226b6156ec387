-- Laws of an array that calls made, one call for each index: where a call at i gives h i, it holds h 0, h 1 and so on.
use mathlib.Core.Path.{◌≡◌, refl, sym, ap, ◌∙◌, subst}
use mathlib.Core.Bool.{Bool, true, false}
use mathlib.Core.List.{List}
use Prim.Native.Nat.{ℕ, zero, suc, ◌+◌, ◌≤◌, ◌<◌}
use native.Mathlib.Omega.{arith}
use borrow.Author.Tests.{eqb-true, eqb-false}
use lib.Dec.{eqb}
use lib.ListN.{take, get_or}
use lib.Seq.{take-length}
use Rattle.std.specs.Fn.{Mut, Called}
use Rattle.std.specs.Array.{IsFromFnResultFrom, IsFromFnResult}
use Rattle.encoding.specs.Entries.{firsts}
use Rattle.encoding.proofs.EntryLaws.{firsts_same, firsts_take}

module _ {F B : Type 0} (g : Mut F (ℕ × Unit {0}) B) (f : F) (h : ℕ → B)
    (calls : (i : ℕ) (y : B) (q : F) → Called g f (i, tt) y q → (q ≡ f) × (y ≡ h i)) where
  made_at : (ys : List B) (z : B) (n i : ℕ) → IsFromFnResultFrom g f ys i n → (j : ℕ) → i ≤ j → j < i + n → get_or ys j z ≡ h j
  made_at ys z zero i m j low high = absurd (omega arith)
  made_at ys z (suc n) i m j low high =
      let one = calls i m.1 m.0 m.3 in
      let rest = subst (λ p. IsFromFnResultFrom g p ys (i + 1) n) one.0 m.4 in
      go (eqb i j) refl (m.2.1 z ∙ one.1) (λ l. made_at ys z n (i + 1) rest j l (omega arith))
    where
      go : (t : Bool) → eqb i j ≡ t → get_or ys i z ≡ h i → (i + 1 ≤ j → get_or ys j z ≡ h j) → get_or ys j z ≡ h j
      go true e here further = subst (λ k. get_or ys k z ≡ h k) (eqb-true i j e) here
      go false e here further = let other = eqb-false i j e in further (omega arith)

  pub made : (ys : List B) (z : B) (n : ℕ) → IsFromFnResult g f ys n → ys ≡ firsts h n
  made ys z n m =
      sym (ap (λ k. take k ys) (sym m.long) ∙ take-length ys)
      ∙ sym (firsts_take ys z n (omega (arith, m.long)))
      ∙ firsts_same (λ i. get_or ys i z) h n (λ i l. made_at ys z n 0 m.each i (omega arith) (omega arith))
