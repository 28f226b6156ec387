-- 52h is refused by 11 unless it is a whole number of entries, up to 75.
use mathlib.Core.Path.{◌≡◌, refl, ap}
use mathlib.Core.Bool.{Bool, true, false, cond, ◌&&◌}
use mathlib.Core.List.{List}
use Prim.Native.Nat.{ℕ, ◌*◌, ◌-◌, ◌/◌, ◌%◌, ◌≤◌, ◌<◌}
use native.Mathlib.Omega.{arith}
use borrow.Author.Tests.{eqb-true, eq-eqb, le-leb, lt-leb, leb-false}
use lib.Dec.{eqb, leb}
use lib.ListN.{length}
use Rattle.std.proofs.Math.Nat.{min-eq_left}
use Rattle.std.specs.Prelude.{Ok, Err}
use Rattle.ranges.specs.Ranges.{in_52}
use Rattle.kinds.specs.Kinds.{table, row_in, allows, length_ok, content}
use Rattle.encoding.specs.Encoding.{decoded_as}
use Rattle.encoding.specs.Entries.{entries_of}
use Rattle.encoding.proofs.EntryLaws.{entry_count, length_entries}
use Rattle.fields_52.specs.declared.Visible.{Visible}
use Rattle.fields_52.specs.Fields.{visibles, count_of, read_of, fields_of, data_of, decoded_of, refusal_of}

-- the two tests
judged_52 : (d : List ℕ) → content 0x52 d
    ≡ cond (leb 0 (length d) && eqb ((length d - 0) % 7) 0 && leb ((length d - 0) / 7) 75 && true) (cond (in_52 d) 0 12) 11
unfolding table row_in allows length_ok content
judged_52 d = refl

-- acceptable data is entries of seven bytes, and all of them are read
pub count_52 : (d : List ℕ) → content 0x52 d ≡ 0 → (7 * (length d / 7) ≡ length d) × (length d / 7 ≤ 75) × (count_of d ≡ length d / 7)
unfolding table row_in
count_52 d h =
    let c = entry_count 0x52 0 7 75 in_52 d refl refl h in
    let most : length d / 7 ≤ 75 = omega arith in
    (omega arith, most, min-eq_left most)

pub all_fields : (d : List ℕ) → content 0x52 d ≡ 0 → read_of d ≡ fields_of d
all_fields d h = let e = (count_52 d h).2 in λ k. record { n = e k; entries = entries_of visibles d (e k) }

-- so that a decoding answers the fields of acceptable data
pub decoded_is : (d : List ℕ) → decoded_of d ≡ decoded_as 0x52 fields_of d
decoded_is d = go (eqb (content 0x52 d) 0) refl
  where
    go : (t : Bool) → eqb (content 0x52 d) 0 ≡ t
        → cond t (Ok (read_of d)) (Err (content 0x52 d)) ≡ cond t (Ok (fields_of d)) (Err (content 0x52 d))
    go true e = ap Ok (all_fields d (eqb-true (content 0x52 d) 0 e))
    go false e = refl

-- more than 75 entries are refused by their data's length
too_many : (d : List ℕ) (n : ℕ) → length d ≡ 7 * n → 75 < n → content 0x52 d ≡ 11
too_many d n l h =
    let k : 75 < (length d - 0) / 7 = omega arith in
    rw (judged_52 d, le-leb 0 (length d) (omega arith), eq-eqb ((length d - 0) % 7) 0 (omega arith), lt-leb _ _ k)

-- fields are refused as their data is
pub refusal_is : (f : Visible) → content 0x52 (data_of f) ≡ refusal_of f
unfolding refusal_of
refusal_is f = go (leb f.n 75) refl
  where
    go : (t : Bool) → leb f.n 75 ≡ t → content 0x52 (data_of f) ≡ cond t (content 0x52 (data_of f)) 11
    go true e = refl
    go false e = too_many (data_of f) f.n (length_entries visibles f.entries f.n (λ _ _. refl)) (leb-false f.n 75 e)
