-- The class of a byte, and stuffing by class.
use mathlib.Core.Bool.{Bool, true, false, cond}
use mathlib.Core.List.{List, [], ◌∷◌, ◌++◌, append-nil}
use mathlib.Core.Path.{◌≡◌, refl, ap, ◌∙◌}
use Prim.Native.Nat.{ℕ, ◌+◌}
use native.Mathlib.Omega.{arith}
use borrow.Author.Tests.{ne_eqb, eqb-true}
use lib.Dec.{eqb}
use lib.ListN.{length, length-append}
use Rattle.stuffing.specs.Stuffing.{DLE, stuffed}
use Rattle.stuffing.proofs.StuffingLaws.{stuffed_nil, stuffed_dle, stuffed_other, stuffed_append}
use Rattle.line.specs.Frame.{ETX, SUM, Class, class_of}
use Rattle.line.specs.Frame.Class.{dle, etx, sum, other}

pub class_dle : class_of DLE ≡ dle
unfolding class_of
class_dle = refl

pub class_etx : class_of ETX ≡ etx
unfolding class_of
class_etx = refl

pub class_sum : class_of SUM ≡ sum
unfolding class_of
class_sum = refl

pub class_other : (b : ℕ) → (b ≡ DLE → ⊥) → (b ≡ ETX → ⊥) → (b ≡ SUM → ⊥) → class_of b ≡ other
unfolding class_of
class_other b p q r =
    ap (λ t. cond t dle (cond (eqb b ETX) etx (cond (eqb b SUM) sum other))) (ne_eqb b DLE p)
    ∙ ap (λ t. cond t etx (cond (eqb b SUM) sum other)) (ne_eqb b ETX q)
    ∙ ap (λ t. cond t sum other) (ne_eqb b SUM r)

-- a class names its byte
pub dle_is : (b : ℕ) → class_of b ≡ dle → b ≡ DLE
unfolding class_of
dle_is b = go (eqb b DLE) (eqb b ETX) (eqb b SUM) refl
  where
    go : (t x y : Bool) → eqb b DLE ≡ t → cond t dle (cond x etx (cond y sum other)) ≡ dle → b ≡ DLE
    go true x y q e = eqb-true b DLE q
    go false true y q e = cc
    go false false true q e = cc
    go false false false q e = cc

pub etx_is : (b : ℕ) → class_of b ≡ etx → b ≡ ETX
unfolding class_of
etx_is b = go (eqb b DLE) (eqb b ETX) (eqb b SUM) refl
  where
    go : (t x y : Bool) → eqb b ETX ≡ x → cond t dle (cond x etx (cond y sum other)) ≡ etx → b ≡ ETX
    go true x y q e = cc
    go false true y q e = eqb-true b ETX q
    go false false true q e = cc
    go false false false q e = cc

pub sum_is : (b : ℕ) → class_of b ≡ sum → b ≡ SUM
unfolding class_of
sum_is b = go (eqb b DLE) (eqb b ETX) (eqb b SUM) refl
  where
    go : (t x y : Bool) → eqb b SUM ≡ y → cond t dle (cond x etx (cond y sum other)) ≡ sum → b ≡ SUM
    go true x y q e = cc
    go false true y q e = cc
    go false false true q e = eqb-true b SUM q
    go false false false q e = cc

-- a byte as stuffing leaves it
abbrev pub doubled : Class → ℕ → List ℕ
doubled dle b = b ∷ b ∷ []
doubled etx b = b ∷ []
doubled sum b = b ∷ []
doubled other b = b ∷ []

not_dle : (b : ℕ) (k : Class) → class_of b ≡ k → (k ≡ dle → ⊥) → b ≡ DLE → ⊥
not_dle b k e n q = n (cc (ap class_of q, class_dle))

pub stuffed_by : (b : ℕ) (s : List ℕ) (k : Class) → class_of b ≡ k → stuffed (b ∷ s) ≡ doubled k b ++ stuffed s
stuffed_by b s dle e = stuffed_dle b s (dle_is b e)
stuffed_by b s etx e = stuffed_other b s (not_dle b etx e (λ q. let z : ◌≡◌ {A = ℕ} 0 1 = cc in omega arith))
stuffed_by b s sum e = stuffed_other b s (not_dle b sum e (λ q. let z : ◌≡◌ {A = ℕ} 0 1 = cc in omega arith))
stuffed_by b s other e = stuffed_other b s (not_dle b other e (λ q. let z : ◌≡◌ {A = ℕ} 0 1 = cc in omega arith))

pub stuffed_snoc : (d : List ℕ) (b : ℕ) (k : Class) → class_of b ≡ k → stuffed (d ++ (b ∷ [])) ≡ stuffed d ++ doubled k b
stuffed_snoc d b k e =
    stuffed_append d (b ∷ [])
    ∙ ap (λ l. stuffed d ++ l) (stuffed_by b [] k e ∙ ap (λ l. doubled k b ++ l) stuffed_nil ∙ append-nil (doubled k b))

pub length_snoc : (d : List ℕ) (b : ℕ) (k : Class) → class_of b ≡ k
    → length (stuffed (d ++ (b ∷ []))) ≡ length (stuffed d) + length (doubled k b)
length_snoc d b k e = ap length (stuffed_snoc d b k e) ∙ length-append (stuffed d) (doubled k b)
