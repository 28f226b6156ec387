-- Laws of a kind that has one length: its length, and acceptance by its ranges alone.
use mathlib.Core.Bool.{Bool, true, false, cond, ◌&&◌, ◌||◌}
use mathlib.Core.List.{List}
use mathlib.Core.Option.{some}
use mathlib.Core.Path.{◌≡◌, refl, sym, ap, ◌∙◌}
use Prim.Native.Nat.{ℕ}
use native.Mathlib.Omega.{arith}
use borrow.Author.Tests.{eqb-true, eq-eqb}
use lib.Dec.{eqb}
use lib.ListN.{length}
use Rattle.ranges.specs.Ranges.{free, in_43, in_46, in_47, in_eb}
use Rattle.octets.specs.Bytes.{byte}
use Rattle.kinds.specs.Kinds.{only, table, row_in, allows, chosen_49, length_ok, in_range, judged, content, one_length, length_of}

module _ (id n : ℕ) (f : List ℕ → Bool) (row : row_in table id ≡ some (only id n f)) (plain : eqb id 0x49 ≡ false) where
  -- what the row answers, by whether the length is the row's
  abbrev by_length : Bool → List ℕ → ℕ
  by_length t d = cond ((t || t) && true) (cond (f d) 0 12) 11

  one : (d : List ℕ) → content id d ≡ by_length (eqb (length d) n) d
  unfolding content length_ok allows
  one d =
      ap (λ o. judged o d) row
      ∙ ap (λ t. cond ((eqb (length d) n || eqb (length d) n) && cond t (chosen_49 (byte d 0) (length d)) true) (cond (f d) 0 12) 11) plain

  -- by the length, then by the ranges
  in_order : (d : List ℕ) → content id d ≡ cond (eqb (length d) n) (cond (f d) 0 12) 11
  in_order d = one d ∙ go (eqb (length d) n)
    where
      go : (t : Bool) → by_length t d ≡ cond t (cond (f d) 0 12) 11
      go true = refl
      go false = refl

  pub tested : (d : List ℕ) → eqb (length d) n && f d ≡ eqb (content id d) 0
  tested d = go (eqb (length d) n) (f d) refl ∙ ap (λ v. eqb v 0) (sym (one d))
    where
      go : (t y : Bool) → f d ≡ y → t && f d ≡ eqb (by_length t d) 0
      go true true e = rw e
      go true false e = rw e
      go false y e = refl

  -- data of the length are judged by the ranges alone
  pub ranged : (d : List ℕ) → length d ≡ n → in_range (row_in table id) d ≡ eqb (content id d) 0
  ranged d e = ap (λ o. in_range o d) row ∙ ap (λ (t : Bool). t && f d) (sym (eq-eqb (length d) n e)) ∙ tested d

  pub long : (d : List ℕ) → content id d ≡ 0 → length d ≡ n
  long d e = go (eqb (length d) n) refl (sym (one d) ∙ e)
    where
      go : (t : Bool) → eqb (length d) n ≡ t → by_length t d ≡ 0 → length d ≡ n
      go true q z = eqb-true (length d) n q
      go false q z = absurd (omega arith)

-- the kinds that a reader keeps
row_43 : row_in table 0x43 ≡ some (only 0x43 6 in_43)
unfolding table row_in
row_43 = refl

row_46 : row_in table 0x46 ≡ some (only 0x46 10 in_46)
unfolding table row_in
row_46 = refl

row_4a : row_in table 0x4A ≡ some (only 0x4A 33 free)
unfolding table row_in
row_4a = refl

row_4b : row_in table 0x4B ≡ some (only 0x4B 42 free)
unfolding table row_in
row_4b = refl

row_eb : row_in table 0xEB ≡ some (only 0xEB 26 in_eb)
unfolding table row_in
row_eb = refl

-- their lengths, as numbers
pub length_43 : length_of 0x43 ≡ 6
length_43 = ap one_length row_43

pub length_46 : length_of 0x46 ≡ 10
length_46 = ap one_length row_46

pub length_4a : length_of 0x4A ≡ 33
length_4a = ap one_length row_4a

pub length_4b : length_of 0x4B ≡ 42
length_4b = ap one_length row_4b

pub length_eb : length_of 0xEB ≡ 26
length_eb = ap one_length row_eb

-- data of the length are judged by the ranges alone
pub ranged_43 : (d : List ℕ) → length d ≡ 6 → in_range (row_in table 0x43) d ≡ eqb (content 0x43 d) 0
ranged_43 d e = ranged 0x43 6 in_43 row_43 refl d e

pub ranged_46 : (d : List ℕ) → length d ≡ 10 → in_range (row_in table 0x46) d ≡ eqb (content 0x46 d) 0
ranged_46 d e = ranged 0x46 10 in_46 row_46 refl d e

pub ranged_eb : (d : List ℕ) → length d ≡ 26 → in_range (row_in table 0xEB) d ≡ eqb (content 0xEB d) 0
ranged_eb d e = ranged 0xEB 26 in_eb row_eb refl d e

pub test_4a : (d : List ℕ) → eqb (length d) 33 && true ≡ eqb (content 0x4A d) 0
test_4a d = tested 0x4A 33 free row_4a refl d

pub test_4b : (d : List ℕ) → eqb (length d) 42 && true ≡ eqb (content 0x4B d) 0
test_4b d = tested 0x4B 42 free row_4b refl d

-- 4Bh is judged by its length alone
pub judged_4b : (d : List ℕ) → content 0x4B d ≡ cond (eqb (length d) 42) 0 11
judged_4b = in_order 0x4B 42 free row_4b refl

-- 46h is judged by its length, then by its fields
pub judged_46 : (d : List ℕ) → content 0x46 d ≡ cond (eqb (length d) 10) (cond (in_46 d) 0 12) 11
judged_46 = in_order 0x46 10 in_46 row_46 refl

-- so is 47h
row_47 : row_in table 0x47 ≡ some (only 0x47 168 in_47)
unfolding table row_in
row_47 = refl

pub judged_47 : (d : List ℕ) → content 0x47 d ≡ cond (eqb (length d) 168) (cond (in_47 d) 0 12) 11
judged_47 = in_order 0x47 168 in_47 row_47 refl

-- what is acceptable has the length
pub long_43 : (d : List ℕ) → content 0x43 d ≡ 0 → length d ≡ length_of 0x43
long_43 d e = long 0x43 6 in_43 row_43 refl d e ∙ sym length_43

pub long_46 : (d : List ℕ) → content 0x46 d ≡ 0 → length d ≡ length_of 0x46
long_46 d e = long 0x46 10 in_46 row_46 refl d e ∙ sym length_46

pub long_4a : (d : List ℕ) → content 0x4A d ≡ 0 → length d ≡ length_of 0x4A
long_4a d e = long 0x4A 33 free row_4a refl d e ∙ sym length_4a

pub long_4b : (d : List ℕ) → content 0x4B d ≡ 0 → length d ≡ length_of 0x4B
long_4b d e = long 0x4B 42 free row_4b refl d e ∙ sym length_4b

pub long_eb : (d : List ℕ) → content 0xEB d ≡ 0 → length d ≡ length_of 0xEB
long_eb d e = long 0xEB 26 in_eb row_eb refl d e ∙ sym length_eb
