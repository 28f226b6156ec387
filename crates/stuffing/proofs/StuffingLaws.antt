-- Laws of stuffing: what callers use in place of its text.
use mathlib.Core.Path.{◌≡◌, refl, ap}
use mathlib.Core.Bool.{Bool, true, false, cond}
use mathlib.Core.List.{List, [], ◌∷◌, ◌++◌}
use mathlib.Core.Logic.{◌↔◌}
use Prim.Native.Nat.{ℕ, zero, suc, ◌+◌, ◌≤◌, ◌<◌}
use native.Mathlib.Nat.{zero-add}
use native.Mathlib.Omega.{arith}
use borrow.Author.Tests.{eq-eqb, ne_eqb, eqb-true, eqb-false}
use lib.Dec.{eqb}
use lib.ListN.{length, get_or}
use Rattle.std.specs.List.{count_by}
use Rattle.std.proofs.lemmas.List.Recursion.{is_count_by}
use Rattle.stuffing.specs.Stuffing.{DLE, stuffed, dles}

pub stuffed_nil : stuffed [] ≡ []
unfolding stuffed
stuffed_nil = refl

-- a byte that is 10h, and one that is not
pub stuffed_dle : (b : ℕ) (s : List ℕ) → b ≡ DLE → stuffed (b ∷ s) ≡ b ∷ b ∷ stuffed s
unfolding stuffed
stuffed_dle b s e = rw (eq-eqb b DLE e)

pub stuffed_other : (b : ℕ) (s : List ℕ) → (b ≡ DLE → ⊥) → stuffed (b ∷ s) ≡ b ∷ stuffed s
unfolding stuffed
stuffed_other b s e = rw (ne_eqb b DLE e)

pub stuffed_append : (a b : List ℕ) → stuffed (a ++ b) ≡ stuffed a ++ stuffed b
unfolding stuffed
stuffed_append [] b = refl
stuffed_append (x ∷ a) b = go (eqb x DLE) (stuffed_append a b)
  where
    go : (t : Bool) → stuffed (a ++ b) ≡ stuffed a ++ stuffed b
        → cond t (x ∷ x ∷ stuffed (a ++ b)) (x ∷ stuffed (a ++ b)) ≡ cond t (x ∷ x ∷ stuffed a) (x ∷ stuffed a) ++ stuffed b
    go true e = ap (λ l. x ∷ x ∷ l) e
    go false e = ap (λ l. x ∷ l) e

-- n bytes, k of them 10h, are n + k when stuffed
pub length_stuffed : (s : List ℕ) → length (stuffed s) ≡ length s + dles s
unfolding stuffed dles
length_stuffed [] = refl
length_stuffed (b ∷ s) = go (eqb b DLE) (length_stuffed s)
  where
    go : (t : Bool) → length (stuffed s) ≡ length s + dles s
        → length (cond t (b ∷ b ∷ stuffed s) (b ∷ stuffed s)) ≡ suc (length s) + (cond t 1 0 + dles s)
    go true e = omega arith
    go false e = omega arith

pub dles_nil : dles [] ≡ 0
unfolding dles
dles_nil = refl

pub dles_append : (a b : List ℕ) → dles (a ++ b) ≡ dles a + dles b
unfolding dles
dles_append [] b = omega arith
dles_append (x ∷ a) b = omega (arith, dles_append a b)

-- the library's count
pub dles_count : (s : List ℕ) → dles s ≡ count_by (λ b. eqb b DLE) s
unfolding dles
dles_count s = is_count_by dles (λ b. eqb b DLE) refl (λ b s. one (eqb b DLE) (dles s)) s
  where
    one : (t : Bool) (n : ℕ) → cond t 1 0 + n ≡ cond t (1 + n) n
    one true n = refl
    one false n = zero-add n

pub dles_dle : (b : ℕ) → b ≡ DLE → dles (b ∷ []) ≡ 1
unfolding dles
dles_dle b e = rw (eq-eqb b DLE e)

pub dles_other : (b : ℕ) → (b ≡ DLE → ⊥) → dles (b ∷ []) ≡ 0
unfolding dles
dles_other b e = rw (ne_eqb b DLE e)

pub dles_le : (s : List ℕ) → dles s ≤ length s
unfolding dles
dles_le [] = omega arith
dles_le (b ∷ s) = go (eqb b DLE) (dles_le s)
  where
    go : (t : Bool) → dles s ≤ length s → cond t 1 0 + dles s ≤ suc (length s)
    go true h = omega arith
    go false h = omega arith

-- none of the bytes is 10h exactly if none is counted, every one exactly if all are
pub dles_none : (s : List ℕ) → dles s ≡ 0 ↔ ((i : ℕ) → i < length s → get_or s i 0 ≡ DLE → ⊥)
dles_none s = (none s, zero_of s)
  where
    none : (s : List ℕ) → dles s ≡ 0 → (i : ℕ) → i < length s → get_or s i 0 ≡ DLE → ⊥
    none [] e i h d = omega arith
    none (b ∷ s) e zero h d = omega (arith, dles_append (b ∷ []) s, dles_dle b d)
    none (b ∷ s) e (suc i) h d = none s (omega (arith, dles_append (b ∷ []) s)) i (omega arith) d

    zero_of : (s : List ℕ) → ((i : ℕ) → i < length s → get_or s i 0 ≡ DLE → ⊥) → dles s ≡ 0
    zero_of [] f = dles_nil
    zero_of (b ∷ s) f =
        omega
        (arith, dles_append (b ∷ []) s, dles_other b (f 0 (omega arith)), zero_of s (λ i h. f (suc i) (omega arith)))

pub dles_all : (s : List ℕ) → dles s ≡ length s ↔ ((i : ℕ) → i < length s → get_or s i 0 ≡ DLE)
dles_all s = (all s, length_of_lem s)
  where
    all : (s : List ℕ) → dles s ≡ length s → (i : ℕ) → i < length s → get_or s i 0 ≡ DLE
    all [] e i h = absurd (omega arith)
    all (b ∷ s) e zero h = first (eqb b DLE) refl
      where
        first : (t : Bool) → eqb b DLE ≡ t → b ≡ DLE
        first true p = eqb-true b DLE p
        first false p = absurd (omega (arith, dles_append (b ∷ []) s, dles_other b (eqb-false b DLE p), dles_le s))
    all (b ∷ s) e (suc i) h = all s (omega (arith, dles_append (b ∷ []) s, dles_le s, dles_le (b ∷ []))) i (omega arith)

    length_of_lem : (s : List ℕ) → ((i : ℕ) → i < length s → get_or s i 0 ≡ DLE) → dles s ≡ length s
    length_of_lem [] f = dles_nil
    length_of_lem (b ∷ s) f =
        omega (arith, dles_append (b ∷ []) s, dles_dle b (f 0 (omega arith)), length_of_lem s (λ i h. f (suc i) (omega arith)))
