-- Document 01, "Kinds and fields" and questions 10 to 12: the twenty-one kinds (F5h is of document 02), and what is acceptable.
use Rattle.std.specs.Prelude.{Bool, true, cond, ◌&&◌, ◌||◌, List, [], ◌∷◌, ℕ, ◌-◌, ◌/◌, ◌%◌, eqb, leb, length, None, Some}
use Rattle.std.specs.Prelude as Prelude
use Rattle.std.proofs.Math.Option.{Option, none, some}
use Rattle.kinds.specs.declared.Kind.{Kind}
use Rattle.kinds.specs.declared.Lengths.{Lengths}
use Rattle.kinds.specs.declared.Lengths.TheVariants.{OneOf, Entries}
use Rattle.ranges.specs.Ranges.{free, in_1f, in_20, in_23, in_43, in_46, in_47, in_49, in_eb, in_52}
use Rattle.octets.specs.Bytes.{byte}

-- a kind, and the ranges of its fields
pub record Row : Type 0 where
  pub kind : Kind
  pub ranges : List ℕ → Bool

-- one of two lengths; one length; up to most entries after a header
abbrev pub one_of : ℕ → ℕ → ℕ → (List ℕ → Bool) → Row
one_of i a b f = record { kind = record { id = i; lengths = OneOf a b }; ranges = f }

abbrev pub only : ℕ → ℕ → (List ℕ → Bool) → Row
only i a f = one_of i a a f

abbrev pub entries : ℕ → ℕ → ℕ → ℕ → (List ℕ → Bool) → Row
entries i h w m f = record { kind = record { id = i; lengths = Entries h w m }; ranges = f }

unfoldable pub table : List Row
table =
    only 0x1B 0 free
    ∷ only 0x1E 0 free
    ∷ only 0x26 0 free
    ∷ only 0x54 0 free
    ∷ one_of 0x21 0 1 free
    ∷ one_of 0x24 0 1 free
    ∷ one_of 0x27 0 1 free
    ∷ one_of 0x2A 0 1 free
    ∷ one_of 0x1F 0 1 in_1f
    ∷ only 0xF4 1 free
    ∷ only 0x20 2 in_20
    ∷ one_of 0x23 0 2 in_23
    ∷ only 0x43 6 in_43
    ∷ only 0x46 10 in_46
    ∷ only 0x47 168 in_47
    ∷ one_of 0x49 93 130 in_49
    ∷ only 0x4A 33 free
    ∷ only 0x4B 42 free
    ∷ only 0xEB 26 in_eb
    ∷ entries 0x52 0 7 75 in_52
    ∷ entries 0xF5 27 30 32 free
    ∷ []

-- question 10: the row of an identifier
unfoldable pub row_in : List Row → ℕ → Option Row
row_in [] id = none
row_in (r ∷ rs) id = cond (eqb r.kind.id id) (some r) (row_in rs id)

-- the length of a kind that has one
abbrev pub first_length : Lengths → ℕ
first_length (OneOf a b) = a
first_length (Entries h w m) = h

abbrev pub one_length : Option Row → ℕ
one_length none = 0
one_length (some r) = first_length r.kind.lengths

abbrev pub length_of : ℕ → ℕ
length_of id = one_length (row_in table id)

-- the row as the code answers it
abbrev pub listed : Option Row → Prelude.Option Kind
listed none = None
listed (some r) = Some r.kind

-- question 11: the table's lengths, and 49h's rule that its first byte chooses between the two
abbrev pub allowed : Lengths → ℕ → Bool
allowed (OneOf a b) n = eqb n a || eqb n b
allowed (Entries h w m) n = leb h n && eqb ((n - h) % w) 0 && leb ((n - h) / w) m

unfoldable pub allows : Kind → ℕ → Bool
allows k n = allowed k.lengths n

unfoldable pub chosen_49 : ℕ → ℕ → Bool
chosen_49 first n = cond (eqb first 1) (eqb n 130) (cond (eqb first 2) (eqb n 93) true)

unfoldable pub length_ok : Kind → List ℕ → Bool
length_ok k d = allows k (length d) && cond (eqb k.id 0x49) (chosen_49 (byte d 0) (length d)) true

-- question 12: the ranges
abbrev pub in_range : Option Row → List ℕ → Bool
in_range none d = true
in_range (some r) d = r.ranges d

abbrev pub judged : Option Row → List ℕ → ℕ
judged none d = 10
judged (some r) d = cond (length_ok r.kind d) (cond (r.ranges d) 0 12) 11

-- questions 10 to 12: 0 where all are yes, else the number of the first no
unfoldable pub content : ℕ → List ℕ → ℕ
content id d = judged (row_in table id) d
