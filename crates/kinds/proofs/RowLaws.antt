-- Laws of the table as the code reads it: its kinds one after the other, then the ranges by identifier.
use mathlib.Core.Path.{◌≡◌, refl}
use mathlib.Core.Bool.{Bool, true, false, cond, ◌&&◌, ◌||◌, and-eq-true_iff}
use mathlib.Core.List.{List, [], ◌∷◌, map}
use mathlib.Core.Logic.{◌⊎◌, inl, inr}
use mathlib.Core.Option.{Option, none, some}
use Prim.Native.Nat.{ℕ, zero, suc, ◌-◌, ◌*◌, ◌/◌, ◌%◌, ◌^◌, ◌≤◌, ◌<◌, min}
use native.Mathlib.Nat.{div-zero, div-add-mod', mul_comm, mul-suc, mul-le-mul_left}
use native.Mathlib.Omega.{arith}
use borrow.Author.Tests.{eqb-true, le-leb, lt-leb, leb-true, leb-false}
use Rattle.std.specs.List.{find}
use lib.Dec.{eqb, leb}
use Rattle.kinds.specs.declared.Kind.{Kind}
use Rattle.kinds.specs.declared.Lengths.TheVariants.{Entries}
use Rattle.std.specs.Prelude.{None, Some}
use Rattle.kinds.specs.Kinds.{Row, table, row_in, listed, length_ok, in_range, judged, content}

abbrev pub kinds_of : List Row → List Kind
kinds_of rs = map (λ (r : Row). r.kind) rs

-- the first kind with the identifier is that of the first row with it
pub first_row : (rs : List Row) (id : ℕ) → find (λ (k : Kind). eqb k.id id) (kinds_of rs) ≡ listed (row_in rs id)
unfolding row_in
first_row [] id = refl
first_row (r ∷ rs) id = go (eqb r.kind.id id) (first_row rs id)
  where
    go : (b : Bool) → find (λ (k : Kind). eqb k.id id) (kinds_of rs) ≡ listed (row_in rs id)
        → cond b (Some r.kind) (find (λ (k : Kind). eqb k.id id) (kinds_of rs)) ≡ listed (cond b (some r) (row_in rs id))
    go true e = refl
    go false e = e

-- a whole number of entries are at most so many where their bytes are no more than those of so many
pub entries_fit : (n w m : ℕ) → n % w ≡ 0 → leb n (w * m) ≡ leb (n / w) m
entries_fit n zero m e =
    let none : n ≡ 0 = omega (arith, div-add-mod' n 0) in
    rw (div-zero n, le-leb 0 m (omega arith)) (le-leb n (0 * m) (omega arith))
entries_fit n (suc v) m e = go (leb (n / w) m) refl
  where
    w : ℕ
    w = suc v

    whole : w * (n / w) ≡ n
    whole = omega (arith, div-add-mod' n w, mul_comm w (n / w))

    go : (b : Bool) → leb (n / w) m ≡ b → leb n (w * m) ≡ b
    go true q = le-leb n (w * m) (omega (arith, whole, mul-le-mul_left w (leb-true (n / w) m q)))
    go false q =
        let more : suc m ≤ n / w = omega (arith, leb-false (n / w) m q) in
        lt-leb n (w * m) (omega (arith, whole, mul-le-mul_left w more, mul-suc w m))

-- a product that is cut at the largest u64 is as large as any
pub cut : (n p : ℕ) → n < 2 ^ 64 → leb n (min p (2 ^ 64 - 1)) ≡ leb n p
cut n p h = go (leb n p) refl
  where
    go : (b : Bool) → leb n p ≡ b → leb n (min p (2 ^ 64 - 1)) ≡ b
    go true q = let l : n ≤ p = leb-true n p q in le-leb n (min p (2 ^ 64 - 1)) (omega arith)
    go false q = let l : p < n = leb-false n p q in lt-leb n (min p (2 ^ 64 - 1)) (omega arith)

-- questions 10 to 12 of the row that was found
pub content_unlisted : (id : ℕ) (d : List ℕ) → listed (row_in table id) ≡ None → content id d ≡ 10
unfolding content
content_unlisted id d e = go (row_in table id) e
  where
    go : (o : Option Row) → listed o ≡ None → judged o d ≡ 10
    go none q = refl
    go (some r) q = let z : ◌≡◌ {A = ℕ} 0 1 = cc in absurd (omega arith)

pub content_listed : (id : ℕ) (k : Kind) (d : List ℕ) → listed (row_in table id) ≡ Some k
    → content id d ≡ cond (length_ok k d) (cond (in_range (row_in table id) d) 0 12) 11
unfolding content
content_listed id k d e = go (row_in table id) e
  where
    go : (o : Option Row) → listed o ≡ Some k → judged o d ≡ cond (length_ok k d) (cond (in_range o d) 0 12) 11
    go none q = let z : ◌≡◌ {A = ℕ} 0 1 = cc in absurd (omega arith)
    go (some r) q = let same : r.kind ≡ k = cc in rw same

-- a kind that is listed is refused by 11 or 12
refused_by_lem : (id : ℕ) (k : Kind) (d : List ℕ) → listed (row_in table id) ≡ Some k → (content id d ≡ 0 → ⊥)
    → (content id d ≡ 11) ⊎ (content id d ≡ 12)
refused_by_lem id k d e h = go (length_ok k d) (in_range (row_in table id) d) (content_listed id k d e)
  where
    go : (a b : Bool) → content id d ≡ cond a (cond b 0 12) 11 → (content id d ≡ 11) ⊎ (content id d ≡ 12)
    go true true q = absurd (h q)
    go true false q = inr q
    go false b q = inl q

pub refused_52 : (d : List ℕ) → (content 0x52 d ≡ 0 → ⊥) → (content 0x52 d ≡ 11) ⊎ (content 0x52 d ≡ 12)
unfolding table row_in
refused_52 d = refused_by_lem 0x52 (record { id = 0x52; lengths = Entries 0 7 75 }) d refl

-- each row has one of these identifiers, or leaves its fields free
abbrev pub among : ℕ → List ℕ → Bool
among x [] = false
among x (y ∷ ys) = eqb x y || among x ys

abbrev others_free : List ℕ → List ℕ → List Row → Bool
others_free ids d [] = true
others_free ids d (r ∷ rs) = (among r.kind.id ids || r.ranges d) && others_free ids d rs

others : (ids d : List ℕ) (id : ℕ) → among id ids ≡ false → (rs : List Row) → others_free ids d rs ≡ true → in_range (row_in rs id) d ≡ true
unfolding row_in
others ids d id n [] e = refl
others ids d id n (r ∷ rs) e =
    let b = (and-eq-true_iff (among r.kind.id ids || r.ranges d) (others_free ids d rs)).0 e in
    go b.0 (eqb r.kind.id id) refl (others ids d id n rs b.1)
  where
    go : among r.kind.id ids || r.ranges d ≡ true
        → (t : Bool) → eqb r.kind.id id ≡ t → in_range (row_in rs id) d ≡ true → in_range (cond t (some r) (row_in rs id)) d ≡ true
    go b true q h = let m : among r.kind.id ids ≡ false = rw (eqb-true r.kind.id id q) n in rw m at b
    go b false q h = h

-- the kinds whose fields have ranges; the fields of any other are free
abbrev pub ranged : List ℕ
ranged = 0x1F ∷ 0x20 ∷ 0x23 ∷ 0x43 ∷ 0x46 ∷ 0x47 ∷ 0x49 ∷ 0xEB ∷ 0x52 ∷ []

pub free_in_range : (id : ℕ) (d : List ℕ) → among id ranged ≡ false → in_range (row_in table id) d ≡ true
unfolding table
free_in_range id d n = others ranged d id n table refl
