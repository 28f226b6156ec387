-- Laws of a record: how data is stored, its length, and the data in line order again.
use mathlib.Core.Bool.{Bool, true, false, cond}
use mathlib.Core.List.{List, [], ◌∷◌}
use mathlib.Core.Option.{some}
use mathlib.Core.Path.{◌≡◌, refl, sym, ap, ◌∙◌}
use Prim.Native.Nat.{ℕ, ◌+◌, ◌-◌, ◌/◌, ◌%◌, ◌≤◌}
use native.Mathlib.Omega.{arith}
use borrow.Author.Tests.{ne_eqb, eqb-true}
use lib.Dec.{eqb}
use lib.ListN.{length, length-append}
use Rattle.octets.specs.Placing.{placed}
use Rattle.octets.proofs.PlacingLaws.{placed_more}
use Rattle.numbers.proofs.NumberLaws.{length_bytes}
use Rattle.ranges.specs.Ranges.{free, in_47, in_52}
use Rattle.kinds.specs.Kinds.{table, row_in, entries, content}
use Rattle.kinds.proofs.OnlyLaws.{judged_47}
use Rattle.encoding.proofs.EntryLaws.{entry_count}
use Rattle.columns.specs.Columns.{crossed, by_columns, by_rows}
use Rattle.columns.proofs.ColumnLaws.{whole_of, whole_none, columns_whole, columns_not, rows_not, length_columns, length_rows}
use Rattle.columns.proofs.Theorems.{rows_columns, columns_rows}
use Rattle.batch.specs.Entries.{Entry}
use Rattle.journal.specs.declared.Layout.{Layout}
use Rattle.journal.specs.Records.{layout_of, stored, restored, head_bytes, record_of, records_of}
use Rattle.journal.specs.Journal.{Stored, length_of}

module _ (id : ℕ) (d : List ℕ) where
  pub length_stored : length (stored id d) ≡ length d
  length_stored = length_columns (layout_of id).header (layout_of id).width d

  pub length_restored : length (restored id d) ≡ length d
  length_restored = length_rows (layout_of id).header (layout_of id).width d

  pub restored_stored : restored id (stored id d) ≡ d
  restored_stored = rows_columns (layout_of id).header (layout_of id).width d

  pub stored_restored : stored id (restored id d) ≡ d
  stored_restored = columns_rows (layout_of id).header (layout_of id).width d

pub length_head : (id n : ℕ) → length (head_bytes id n) ≡ 5
length_head id n = omega (arith, length_bytes 2 n)

pub length_record : (x : Entry) → length (record_of x) ≡ 5 + length x.body
length_record x =
    length-append (head_bytes x.id (length x.body)) (stored x.id x.body)
    ∙ omega (arith, length_head x.id (length x.body), length_stored x.id x.body)

pub length_records : (xs : List Entry) → length (records_of xs) ≡ length_of xs
unfolding records_of
length_records [] = refl
length_records (x ∷ xs) = length-append (record_of x) (records_of xs) ∙ (λ k. length_record x k + length_records xs k)

-- a record in the buffer: its head, then the data
pub record_placed : (x : Entry) (b : List ℕ) (at : ℕ) → at + (5 + length x.body) ≤ length b
    → placed (placed b at (head_bytes x.id (length x.body))) (at + 5) (stored x.id x.body) ≡ placed b at (record_of x)
record_placed x b at l =
    let h = head_bytes x.id (length x.body) in
    let d = stored x.id x.body in
    let p = length_head x.id (length x.body) in
    ap (λ k. placed (placed b at h) (at + k) d) (sym p) ∙ placed_more b at h d (omega (arith, p, length_stored x.id x.body))

-- the layouts
layout_47 : layout_of 0x47 ≡ record { header = 0; width = 3 }
unfolding layout_of
layout_47 = refl

layout_52 : layout_of 0x52 ≡ record { header = 0; width = 7 }
unfolding layout_of
layout_52 = refl

layout_f5 : layout_of 0xF5 ≡ record { header = 27; width = 30 }
unfolding layout_of
layout_f5 = refl

layout_other : (id : ℕ) → (id ≡ 0x47 → ⊥) → (id ≡ 0x52 → ⊥) → (id ≡ 0xF5 → ⊥) → layout_of id ≡ record { header = 0; width = 0 }
unfolding layout_of
layout_other id a b c = rw (ne_eqb id 0x47 a, ne_eqb id 0x52 b, ne_eqb id 0xF5 c)

-- of a kind without repeated entries
module _ (id : ℕ) (d : List ℕ) (e : record { header = 0; width = 0 } ≡ layout_of id) where
  pub stored_plain : stored id d ≡ d
  stored_plain = ap (λ (l : Layout). by_columns l.header l.width d) (sym e) ∙ columns_not 0 0 d (whole_none 0 (length d))

  pub restored_plain : restored id d ≡ d
  restored_plain = ap (λ (l : Layout). by_rows l.header l.width d) (sym e) ∙ rows_not 0 0 d (whole_none 0 (length d))

row_52 : row_in table 0x52 ≡ some (entries 0x52 0 7 75 in_52)
unfolding row_in table
row_52 = refl

row_f5 : row_in table 0xF5 ≡ some (entries 0xF5 27 30 32 free)
unfolding row_in table
row_f5 = refl

module _ (d : List ℕ) where
  abbrev by_layout : Layout → List ℕ
  by_layout l = by_columns l.header l.width d

  -- acceptable data is whole entries
  whole_47 : content 0x47 d ≡ 0 → length d ≡ 168
  whole_47 c = go (eqb (length d) 168) refl
    where
      go : (t : Bool) → eqb (length d) 168 ≡ t → length d ≡ 168
      go true e = eqb-true (length d) 168 e
      go false e = let q = sym c ∙ judged_47 d ∙ (λ k. cond (e k) (cond (in_47 d) 0 12) 11) in absurd (omega arith)

  pub stored_as : Stored d
  stored_as = record {
    of_47 = λ c.
        let n = whole_47 c in
        let e : length d - 0 ≡ 168 = omega arith in
        let z : (length d - 0) % 3 ≡ 0 = rw e in
        ap by_layout layout_47 ∙ columns_whole 0 3 d (whole_of 0 3 (length d) (omega arith) (omega arith) z) ∙ ap (λ k. crossed (k / 3) 3 d) e;
    of_52 = λ c.
        let p = entry_count 0x52 0 7 75 in_52 d row_52 refl c in
        let e : length d - 0 ≡ length d = omega arith in
        ap by_layout layout_52 ∙ columns_whole 0 7 d (whole_of 0 7 (length d) (omega arith) (omega arith) p.1) ∙ ap (λ k. crossed (k / 7) 7 d) e;
    of_f5 = λ c.
        let p = entry_count 0xF5 27 30 32 free d row_f5 refl c in
        ap by_layout layout_f5 ∙ columns_whole 27 30 d (whole_of 27 30 (length d) p.0 (omega arith) p.1);
    of_others = λ id a b c. ap by_layout (layout_other id a b c) ∙ columns_not 0 0 d (whole_none 0 (length d));
  }
