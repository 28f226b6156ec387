-- Laws of questions 10 to 12: what callers use in place of the table. Each is one test, computed over all rows.
use mathlib.Core.Path.{◌≡◌, refl, sym, ◌∙◌}
use mathlib.Core.Bool.{Bool, true, false, cond, not, ◌&&◌, ◌||◌, and-eq-true_iff}
use mathlib.Core.List.{List, [], ◌∷◌}
use mathlib.Core.Option.{Option, none, some}
use Prim.Native.Nat.{ℕ, ◌+◌, ◌*◌, ◌-◌, ◌/◌, ◌%◌, ◌≤◌, ◌<◌, max}
use native.Mathlib.Nat.{div-add-mod', mul-le-mul_right, le-max_left, le-max_right}
use native.Mathlib.Omega.{arith}
use borrow.Author.Tests.{eqb-true, eqb-false, leb-true, not-true}
use lib.Dec.{eqb, leb}
use lib.ListN.{length}
use Rattle.kinds.specs.declared.Kind.{Kind}
use Rattle.kinds.specs.declared.Lengths.{Lengths}
use Rattle.kinds.specs.declared.Lengths.TheVariants.{OneOf, Entries}
use Rattle.kinds.specs.Kinds.{Row, table, row_in, allowed, allows, length_ok, judged, content}

-- the test holds of each row
abbrev every : (Row → Bool) → List Row → Bool
every f [] = true
every f (r ∷ rs) = f r && every f rs

-- the row that was found, if any, passes the test and has the identifier
abbrev Passes : (Row → Bool) → ℕ → Option Row → Type 0
Passes f id none = Unit {0}
Passes f id (some r) = (f r ≡ true) × (r.kind.id ≡ id)

passes : (f : Row → Bool) (id : ℕ) (rs : List Row) → every f rs ≡ true → Passes f id (row_in rs id)
unfolding row_in
passes f id [] e = tt
passes f id (r ∷ rs) e =
    let b = (and-eq-true_iff (f r) (every f rs)).0 e in
    go b.0 (eqb r.kind.id id) refl (passes f id rs b.1)
  where
    go : f r ≡ true → (t : Bool) → eqb r.kind.id id ≡ t → Passes f id (row_in rs id) → Passes f id (cond t (some r) (row_in rs id))
    go p true q h = (p, eqb-true r.kind.id id q)
    go p false q h = h

-- the answer of a listed identifier, by its length and its ranges
abbrev answer : Bool → Bool → ℕ
answer long inside = cond long (cond inside 0 12) 11

-- what acceptable content has: a row that passes the test, with its identifier and an allowed length
record Accepted (f : Row → Bool) (id : ℕ) (d : List ℕ) : Type 0 where
  row : Row
  passed : f row ≡ true
  same : row.kind.id ≡ id
  long : allows row.kind (length d) ≡ true

accepted : (f : Row → Bool) → every f table ≡ true → (id : ℕ) (d : List ℕ) → content id d ≡ 0 → Accepted f id d
unfolding content length_ok
accepted f e id d h = go (row_in table id) (passes f id table e) h
  where
    by : (r : Row) (t : Bool) → length_ok r.kind d ≡ t → Passes f id (some r) → answer t (r.ranges d) ≡ 0 → Accepted f id d
    by r true q p z = record { row = r; passed = p.0; same = p.1; long = ((and-eq-true_iff (allows r.kind (length d)) _).0 q).0 }
    by r false q p z = absurd (omega arith)

    go : (o : Option Row) → Passes f id o → judged o d ≡ 0 → Accepted f id d
    go none p z = absurd (omega arith)
    go (some r) p z = by r (length_ok r.kind d) refl p z

-- a refusal is one of 10 to 12
pub content_number : (id : ℕ) (d : List ℕ) → (content id d ≡ 0 → ⊥) → (10 ≤ content id d) × (content id d ≤ 12)
unfolding content
content_number id d = go (row_in table id)
  where
    by : (a b : Bool) → (answer a b ≡ 0 → ⊥) → (10 ≤ answer a b) × (answer a b ≤ 12)
    by true true h = absurd (h refl)
    by true false h = (omega arith, omega arith)
    by false b h = (omega arith, omega arith)

    go : (o : Option Row) → (judged o d ≡ 0 → ⊥) → (10 ≤ judged o d) × (judged o d ≤ 12)
    go none h = (omega arith, omega arith)
    go (some r) h = by (length_ok r.kind d) (r.ranges d) h

-- no row has the identifier DLE, ETX or SUM
abbrev usable : Row → Bool
usable r = not (eqb r.kind.id 0x10) && not (eqb r.kind.id 0x03) && not (eqb r.kind.id 0xFF)

pub content_usable : (id : ℕ) (d : List ℕ) → content id d ≡ 0 → (id ≡ 0x10 → ⊥) × (id ≡ 0x03 → ⊥) × (id ≡ 0xFF → ⊥)
unfolding table
content_usable id d h =
    let a = accepted usable refl id d h in
    let i : ℕ = a.row.kind.id in
    let n : ℕ → Bool = λ x. not (eqb i x) in
    let q = (and-eq-true_iff (n 0x10 && n 0x03) (n 0xFF)).0 a.passed in
    let p = (and-eq-true_iff (n 0x10) (n 0x03)).0 q.0 in
    let other : (x : ℕ) → n x ≡ true → id ≡ x → ⊥ = λ x t e. eqb-false i x (not-true (eqb i x) t) (a.same ∙ e) in
    (other 0x10 p.0, other 0x03 p.1, other 0xFF q.1)

-- the longest length of a kind
abbrev longest_of : Lengths → ℕ
longest_of (OneOf a b) = max a b
longest_of (Entries h w m) = h + m * w

abbrev longest : Kind → ℕ
longest k = longest_of k.lengths

one_of : (n a b : ℕ) → eqb n a || eqb n b ≡ true → n ≤ max a b
one_of n a b e = go (eqb n a) refl e
  where
    go : (t : Bool) → eqb n a ≡ t → t || eqb n b ≡ true → n ≤ max a b
    go true q z = omega (arith, eqb-true n a q, le-max_left a b)
    go false q z = omega (arith, eqb-true n b z, le-max_right a b)

entries_of_lem : (n h w m : ℕ) → leb h n && eqb ((n - h) % w) 0 && leb ((n - h) / w) m ≡ true → n ≤ h + m * w
entries_of_lem n h w m e =
    let b = (and-eq-true_iff (leb h n && eqb ((n - h) % w) 0) (leb ((n - h) / w) m)).0 e in
    let a = (and-eq-true_iff (leb h n) (eqb ((n - h) % w) 0)).0 b.0 in
    let l = leb-true h n a.0 in
    let z = eqb-true ((n - h) % w) 0 a.1 in
    let k : (n - h) / w * w ≤ m * w = mul-le-mul_right w (leb-true ((n - h) / w) m b.1) in
    omega (arith, div-add-mod' (n - h) w)

allows_longest : (k : Kind) (n : ℕ) → allows k n ≡ true → n ≤ longest k
unfolding allows
allows_longest k n e = go k.lengths e
  where
    go : (l : Lengths) → allowed l n ≡ true → n ≤ longest_of l
    go (OneOf a b) h = one_of n a b h
    go (Entries h w m) q = entries_of_lem n h w m q

-- no kind is longer than the data that a frame holds
pub content_length : (id : ℕ) (d : List ℕ) → content id d ≡ 0 → length d ≤ 1024
unfolding table
content_length id d h =
    let a = accepted (λ r. leb (longest r.kind) 1024) refl id d h in
    omega (arith, allows_longest a.row.kind (length d) a.long, leb-true (longest a.row.kind) 1024 a.passed)

-- so that longer data is refused by its identifier and its length alone
pub content_long : (id : ℕ) (d e : List ℕ) → 1024 < length d → 1024 < length e → content id d ≡ content id e
unfolding content table length_ok
content_long id d e p q = go (row_in table id) (passes (λ r. leb (longest r.kind) 1024) id table refl)
  where
    not_ok : (r : Row) → leb (longest r.kind) 1024 ≡ true → (x : List ℕ) → 1024 < length x → length_ok r.kind x ≡ false
    not_ok r f x l = by (allows r.kind (length x)) refl
      where
        by : (t : Bool) → allows r.kind (length x) ≡ t → length_ok r.kind x ≡ false
        by true a = absurd (omega (arith, allows_longest r.kind (length x) a, leb-true (longest r.kind) 1024 f))
        by false a = rw a

    go : (o : Option Row) → Passes (λ r. leb (longest r.kind) 1024) id o → judged o d ≡ judged o e
    go none z = refl
    go (some r) z = (λ k. answer (not_ok r z.0 d p k) (r.ranges d)) ∙ sym (λ k. answer (not_ok r z.0 e q k) (r.ranges e))
