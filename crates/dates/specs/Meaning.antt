-- What the theorems say: on dates rolled (proofs/Theorems.antt), and on the time in UTC (proofs/UtcTheorems.antt).
use Rattle.std.specs.Prelude.{◌≡◌, true, false, List, ℕ, ◌+◌, ◌-◌, ◌*◌, ◌<◌, length, pos, ◌-ℤ◌}
use Rattle.calendar.specs.Calendar.{days_in, sum_from, days_of_year}
use Rattle.ranges.specs.Ranges.{in_46}
use Rattle.fields_46.specs.Fields.{fields_of}
use Rattle.fields_46.specs.declared.Time.{Time}
use Rattle.dates.specs.declared.Date.{Date}
use Rattle.dates.specs.declared.DateTime.{DateTime}
use Rattle.dates.specs.Dates.{Rolled, exists}
use Rattle.dates.specs.UtcTime.{zone_seconds, local_date, local_second}

-- the number of a day: the days of the years before its own, from year 0 on, those of the months before its own, and the day
unfoldable pub day_number : Date → ℕ
day_number d = sum_from 0 d.year days_of_year + sum_from 1 (d.month - 1) (λ m. days_in m d.year) + d.day

-- what a call in place promises of the date before it, the date after it and the number returned
pub record Called (rule : Date → Rolled) (before after : Date) (v : ℕ) : Type 0 where
  pub number : v ≡ (rule before).refusal
  pub date : after ≡ (rule before).date

-- the seconds up to a second of a day
abbrev pub instant : Date → ℕ → ℕ
instant d s = day_number d * 86400 + s

-- what it is for t to be the time of f in UTC
pub record InUtc (f : Time) (t : DateTime) : Type 0 where
  pub there : exists t.date ≡ true
  pub second_lt : t.second < 86400
  pub balance : pos (instant t.date t.second) ≡ pos (instant (local_date f) (local_second f)) -ℤ zone_seconds f.hours f.minutes

-- the ends of the years between which dates are rolled
abbrev pub first_date : Date
first_date = record { day = 1; month = 1; year = 1999 }

abbrev pub last_date : Date
last_date = record { day = 31; month = 12; year = 65535 }

-- the UTC date would be 1 January 65,536: the local date is the last, and its second less the zone is of the day after
pub record Beyond (f : Time) : Type 0 where
  pub at_last : local_date f ≡ last_date
  pub over : ℕ
  pub crossed : pos (local_second f) -ℤ zone_seconds f.hours f.minutes ≡ pos (86400 + over)

-- the number of the first question that says no, beside the yes of each one before it; 0 where all say yes
pub data First (d : List ℕ) : ℕ → Type 0 where
  by_length : (length d ≡ 10 → ⊥) → First d 11
  by_range : length d ≡ 10 → in_46 d ≡ false → First d 12
  by_year : length d ≡ 10 → in_46 d ≡ true → Beyond (fields_of d) → First d 18
  accepted : length d ≡ 10 → in_46 d ≡ true → (Beyond (fields_of d) → ⊥) → First d 0
