-- What acceptable data has, by its kind's row: an allowed length and fields in range. `row` is closed by computing the table.
use mathlib.Core.Path.{◌≡◌, refl, sym, ap, ◌∙◌}
use mathlib.Core.Bool.{Bool, true, false, cond, ◌||◌, and-eq-true_iff}
use mathlib.Core.List.{List, [], ◌∷◌}
use mathlib.Core.Logic.{◌⊎◌, inl, inr}
use mathlib.Core.Option.{some}
use Prim.Native.Nat.{ℕ, zero, suc, ◌+◌, ◌<◌}
use native.Mathlib.Nat.{add-zero}
use native.Mathlib.Omega.{arith}
use borrow.Author.Tests.{eqb-true}
use lib.Dec.{eqb}
use lib.ListN.{length, drop}
use lib.Seq.{drop-cons, drop-length}
use Rattle.octets.specs.Bytes.{byte}
use Rattle.kinds.specs.Kinds.{Row, table, row_in, one_of, only, allows, length_ok, content}

-- the refusal, by its length and its ranges
abbrev answer : Bool → Bool → ℕ
answer long inside = cond long (cond inside 0 12) 11

pub accepted_parts : (id : ℕ) (r : Row) (d : List ℕ) → row_in table id ≡ some r → content id d ≡ 0
    → (length_ok r.kind d ≡ true) × (r.ranges d ≡ true)
unfolding content
accepted_parts id r d row h = go (length_ok r.kind d) (r.ranges d) (rw row at h)
  where
    go : (a b : Bool) → answer a b ≡ 0 → (a ≡ true) × (b ≡ true)
    go true true z = (refl, refl)
    go true false z = absurd (omega arith)
    go false b z = absurd (omega arith)

module _ (id a b : ℕ) (f : List ℕ → Bool) (d : List ℕ) where
  -- one of two lengths
  pub two_lengths : row_in table id ≡ some (one_of id a b f) → content id d ≡ 0 → (length d ≡ a) ⊎ (length d ≡ b)
  unfolding length_ok allows
  two_lengths row h = go (eqb (length d) a) refl ((and-eq-true_iff (eqb (length d) a || eqb (length d) b) _).0 (accepted_parts id (one_of id a b f) d row h).0).0
    where
      go : (t : Bool) → eqb (length d) a ≡ t → t || eqb (length d) b ≡ true → (length d ≡ a) ⊎ (length d ≡ b)
      go true e z = inl (eqb-true (length d) a e)
      go false e z = inr (eqb-true (length d) b z)

-- one length
pub one_length_lem : (id a : ℕ) (f : List ℕ → Bool) (d : List ℕ) → row_in table id ≡ some (only id a f) → content id d ≡ 0 → length d ≡ a
one_length_lem id a f d row h = elim (two_lengths id a a f d row h) [ inl e ↦ e | inr e ↦ e ]

-- what holds of one identifier more
pub either : (P : ℕ → Type 0) (id x : ℕ) (t : Bool) → P x → (t ≡ true → P id) → t || eqb id x ≡ true → P id
either P id x true p rest e = rest refl
either P id x false p rest e = rw (eqb-true id x e) p

-- the n bytes from i on, one by one
abbrev pub spell : List ℕ → ℕ → ℕ → List ℕ
spell d i zero = []
spell d i (suc n) = byte d i ∷ spell d (suc i) n

pub spelled : (n i : ℕ) (d : List ℕ) → length d ≡ i + n → spell d i n ≡ drop i d
spelled zero i d e = let h : length d ≡ i = e ∙ add-zero i in sym (ap (λ (j : ℕ). drop j d) (sym h) ∙ drop-length d)
spelled (suc n) i d e =
    let h : i < length d = omega arith in
    let t : length d ≡ suc i + n = omega arith in
    rw (drop-cons d i 0 h) (ap (λ (l : List ℕ). byte d i ∷ l) (spelled n (suc i) d t))
