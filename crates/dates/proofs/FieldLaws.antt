-- The fields of acceptable 46h data are in range.
use mathlib.Core.Path.{◌≡◌, refl, sym, ap, ◌∙◌}
use mathlib.Core.Bool.{Bool, true, false, cond, ◌&&◌, and-eq-true_iff}
use mathlib.Core.List.{List}
use mathlib.Core.Option.{Option, none, some}
use Prim.Native.Nat.{ℕ, ◌≤◌, ◌<◌}
use native.Mathlib.Omega.{arith}
use borrow.Author.Tests.{eqb-true, ltb-true}
use lib.Dec.{eqb, leb, ltb}
use lib.ListN.{length}
use Rattle.std.specs.Prelude.{Result, Ok, Err}
use Rattle.octets.specs.Bytes.{byte, Bytes}
use Rattle.numbers.specs.Number.{number_at}
use Rattle.numbers.specs.Signed.{int8}
use Rattle.numbers.proofs.NumberLaws.{number_in, number_one, part_lt}
use Rattle.calendar.specs.Calendar.{date_exists}
use Rattle.ranges.specs.Ranges.{in_46, zone, int8_at}
use Rattle.kinds.specs.Kinds.{content}
use Rattle.kinds.proofs.OnlyLaws.{judged_46}
use Rattle.encoding.proofs.DecodedLaws as decoded
use Rattle.fields_46.specs.Fields.{fields_of, decoded_of}
use Rattle.fields_46.specs.declared.Time.{Time}
use Rattle.dates.specs.Dates.{exists}
use Rattle.dates.specs.UtcTime.{local_date}

pub record InRange (f : Time) : Type 0 where
  pub there : exists (local_date f) ≡ true
  pub year_above : 1999 < f.year
  pub zone_in : zone f.hours f.minutes ≡ true

-- the length and the ranges of what nothing refuses
pub accepted : (d : List ℕ) → content 0x46 d ≡ 0 → (length d ≡ 10) × (in_46 d ≡ true)
accepted d e = go (eqb (length d) 10) (in_46 d) refl (sym (judged_46 d) ∙ e)
  where
    go : (t u : Bool) → eqb (length d) 10 ≡ t → ◌≡◌ {A = ℕ} (cond t (cond u 0 12) 11) 0 → (length d ≡ 10) × (u ≡ true)
    go true true q z = (eqb-true (length d) 10 q, refl)
    go true false q z = absurd (omega arith)
    go false u q z = absurd (omega arith)

pub in_range_lem : (d : List ℕ) → content 0x46 d ≡ 0 → InRange (fields_of d)
unfolding fields_of
in_range_lem d e =
    let s = leb (number_at d 0 4) 604799 in
    let x = date_exists (byte d 4) (byte d 5) (number_at d 6 2) in
    let y = ltb 1999 (number_at d 6 2) in
    let z = zone (int8_at d 8) (int8_at d 9) in
    let sxy = (and-eq-true_iff (s && x && y) z).0 (accepted d e).1 in
    let sx = (and-eq-true_iff (s && x) y).0 sxy.0 in
    record {
      there = (λ k. date_exists (number_one d 4 k) (number_one d 5 k) (number_at d 6 2)) ∙ ((and-eq-true_iff s x).0 sx.0).1;
      year_above = ltb-true 1999 (number_at d 6 2) sx.1;
      zone_in = (λ k. zone (int8 (number_one d 8 k)) (int8 (number_one d 9 k))) ∙ sxy.1;
    }

-- a year of two bytes
pub year_fits : (d : List ℕ) → Bytes d → length d ≡ 10 → (fields_of d).year ≤ 65535
unfolding fields_of
year_fits d b l = omega (arith, number_in d 6 2 (omega arith), part_lt d 6 2 b (omega arith))

-- fields that were decoded are those of data that nothing refuses
abbrev held : Result Time ℕ → Option Time
held (Ok f) = some f
held (Err v) = none

abbrev or_other : Time → Option Time → Time
or_other g (some f) = f
or_other g none = g

pub decoded_in_range : (d : List ℕ) (f : Time) → decoded_of d ≡ Ok f → InRange f
decoded_in_range d f e =
    let a = decoded.answered held Ok Err (Ok (fields_of d)) (content 0x46 d) f (λ g. refl) (λ n. refl) e in
    let same : fields_of d ≡ f = ap (or_other f) a.1 in
    rw (← same) (in_range_lem d a.0)
