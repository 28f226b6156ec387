-- Dates at the ends of months and years, and the number of a day, as they stand in a printed calendar.
use mathlib.Core.Path.{◌≡◌, refl}
use Prim.Native.Nat.{ℕ}
use Rattle.calendar.specs.Calendar.{leap, days_in, date_exists, sum_from, days_of_year}
use Rattle.dates.specs.declared.Date.{Date}
use Rattle.dates.specs.Dates.{day_after, day_before, granted_to, refused_at, rolled_to, forward_of, back_of}
use Rattle.dates.specs.Meaning.{day_number}

abbrev date : ℕ → ℕ → ℕ → Date
date d m y = record { day = d; month = m; year = y }

pub february : (forward_of (date 28 2 2100) ≡ granted_to (date 1 3 2100)) × (forward_of (date 28 2 2000) ≡ granted_to (date 29 2 2000))
unfolding rolled_to day_after date_exists days_in leap
february = (refl, refl)

pub new_year : (forward_of (date 31 12 1999) ≡ granted_to (date 1 1 2000)) × (back_of (date 1 1 2000) ≡ granted_to (date 31 12 1999))
unfolding rolled_to day_after day_before date_exists days_in leap
new_year = (refl, refl)

pub ends : (forward_of (date 31 12 65535) ≡ refused_at (date 31 12 65535)) × (back_of (date 1 1 1999) ≡ refused_at (date 1 1 1999))
unfolding rolled_to day_after day_before date_exists days_in leap
ends = (refl, refl)

-- 1 January 2000 is day 730,120 from 1 January of year 1, and year 0 has 366 days
pub millennium : day_number (date 1 1 2000) ≡ 730486
unfolding day_number sum_from days_of_year days_in leap
millennium = refl
