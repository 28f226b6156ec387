-- Laws of the search: how it goes on at an index, what it gives, and what stands before it.
use mathlib.Core.Path.{◌≡◌, refl, sym, ap, ◌∙◌, subst}
use mathlib.Core.Bool.{Bool, true, false, cond}
use mathlib.Core.List.{List, ◌∷◌}
use Prim.Native.Nat.{ℕ, zero, suc, ◌+◌, ◌*◌, ◌/◌, ◌≤◌, ◌<◌}
use native.Mathlib.Omega.{arith}
use borrow.Author.Tests.{eq-eqb, ne_eqb, eqb-true, eqb-false, ltb-true, ltb-false, lt-ltb, le-ltb}
use lib.Dec.{eqb, ltb}
use lib.ListN.{length, take, drop}
use lib.Seq.{drop-drop}
use Rattle.std.specs.Prelude.{Option, Some, None, Ok, Err}
use Rattle.std.specs.List.{position_or_len}
use Rattle.ranges.proofs.ChainLaws.{pieces}
use Rattle.kinds.specs.Kinds.{content}
use Rattle.lookup.specs.Lookup.{has, first_from, found_in}

-- ---- what stands before the search

pub accepted : (d : List ℕ) (s n : ℕ) → content 0x52 d ≡ 0 → found_in d s n ≡ Ok (first_from (has d s n) 0 (length d / 7))
unfolding found_in
accepted d s n e = rw (eq-eqb (content 0x52 d) 0 e)

pub refused : (d : List ℕ) (s n v : ℕ) → content 0x52 d ≡ v → (v ≡ 0 → ⊥) → found_in d s n ≡ Err v
unfolding found_in
refused d s n v e h = rw (ne_eqb (content 0x52 d) 0 (λ z. h (sym e ∙ z)), e)

-- ---- the search over the entries' bytes

module _ (passes : List ℕ → Bool) where
  -- the first of the pieces that passes, its index counted from i
  abbrev pub first_of : ℕ → List (List ℕ) → Option ℕ
  first_of i l = cond (ltb (position_or_len passes l) (length l)) (Some (i + position_or_len passes l)) None

  next_of : (i : ℕ) (e : List ℕ) (l : List (List ℕ)) (b : Bool) → passes e ≡ b
      → cond b (Some i) (first_of (suc i) l) ≡ first_of i (e ∷ l)
  next_of i e l true p =
      let z : i ≡ i + 0 = omega arith in
      rw p (ap Some z ∙ sym (ap (λ (t : Bool). cond t (Some (i + 0)) None) (lt-ltb 0 (suc (length l)) (omega arith))))
  next_of i e l false p = rw p (go (ltb (position_or_len passes l) (length l)) refl)
    where
      n : ℕ
      n = position_or_len passes l

      go : (t : Bool) → ltb n (length l) ≡ t
          → cond t (Some (suc i + n)) None ≡ cond (ltb (1 + n) (suc (length l))) (Some (i + (1 + n))) None
      go true q =
          let b = ltb-true n (length l) q in
          let z : suc i + n ≡ i + (1 + n) = omega arith in
          ap Some z ∙ sym (ap (λ (t : Bool). cond t (Some (i + (1 + n))) None) (lt-ltb (1 + n) (suc (length l)) (omega arith)))
      go false q =
          let b = ltb-false n (length l) q in
          sym (ap (λ (t : Bool). cond t (Some (i + (1 + n))) None) (le-ltb (1 + n) (suc (length l)) (omega arith)))

  pub searched : (test : ℕ → Bool) (i k : ℕ) (d : List ℕ) → ((j : ℕ) → test (i + j) ≡ passes (take 7 (drop (7 * j) d)))
      → first_from test i k ≡ first_of i (pieces 7 k d)
  unfolding first_from
  searched test i zero d h = refl
  searched test i (suc k) d h =
      (λ t. cond (here t) (Some i) (searched test (suc i) k (drop 7 d) (λ j. further j) t)) ∙ next_of i (take 7 d) (pieces 7 k (drop 7 d)) (passes (take 7 d)) refl
    where
      here : test i ≡ passes (take 7 d)
      here = let z : i ≡ i + 0 = omega arith in ap test z ∙ h 0

      further : (j : ℕ) → test (suc i + j) ≡ passes (take 7 (drop (7 * j) (drop 7 d)))
      further j =
          let z : suc i + j ≡ i + suc j = omega arith in
          let y : 7 * suc j ≡ 7 + 7 * j = omega arith in
          ap test z ∙ h (suc j) ∙ ap (λ a. passes (take 7 (drop a d))) y ∙ ap (λ l. passes (take 7 l)) (sym (drop-drop (7 * j) 7 d))

-- ---- what the search gives

abbrev pub Given : (ℕ → Bool) → ℕ → ℕ → Option ℕ → Type 0
Given test i k (Some j) = (i ≤ j) × (j < i + k) × (test j ≡ true) × ((l : ℕ) → i ≤ l → l < j → test l ≡ false)
Given test i k None = (l : ℕ) → i ≤ l → l < i + k → test l ≡ false

-- one index more in front, at which the test fails
module _ (test : ℕ → Bool) (i k : ℕ) (f : test i ≡ false) where
  passed : (b : ℕ) → ((l : ℕ) → suc i ≤ l → l < b → test l ≡ false) → (l : ℕ) → i ≤ l → l < b → test l ≡ false
  passed b h l p q = go (eqb i l) refl
    where
      go : (t : Bool) → eqb i l ≡ t → test l ≡ false
      go true e = subst (λ j. test j ≡ false) (eqb-true i l e) f
      go false e = let z = eqb-false i l e in h l (omega arith) q

  in_front : (r : Option ℕ) → Given test (suc i) k r → Given test i (suc k) r
  in_front (Some j) g = (omega (arith, g), omega (arith, g), g.2, passed j g.3)
  in_front None g = passed (i + suc k) (λ l p q. g l p (omega arith))

pub given : (test : ℕ → Bool) (i k : ℕ) → Given test i k (first_from test i k)
unfolding first_from
given test i zero = λ l p q. absurd (omega arith)
given test i (suc k) = go (test i) refl (given test (suc i) k)
  where
    go : (t : Bool) → test i ≡ t → Given test (suc i) k (first_from test (suc i) k)
        → Given test i (suc k) (cond t (Some i) (first_from test (suc i) k))
    go true e g = (omega arith, omega arith, e, λ l p q. absurd (omega arith))
    go false e g = in_front test i k e (first_from test (suc i) k) g
