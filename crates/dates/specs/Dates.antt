-- Document 02, Point 9: a date rolled forward and back one day.
use Rattle.std.specs.Prelude.{Bool, cond, ◌&&◌, ℕ, ◌+◌, ◌-◌, leb, ltb, Result, Ok, Err}
use Rattle.refusals.specs.declared.Refusal.{Refusal}
use Rattle.refusals.specs.Numbers.{number}
use Rattle.calendar.specs.Calendar.{days_in, date_exists}
use Rattle.dates.specs.declared.Date.{Date}

abbrev pub exists : Date → Bool
exists d = date_exists d.day d.month d.year

-- the next day of the month; after its last one the first of the next month; after December's last one 1 January
unfoldable pub day_after : Date → Date
day_after d =
    cond (ltb d.day (days_in d.month d.year)) (record { day = d.day + 1; month = d.month; year = d.year })
    (cond (ltb d.month 12) (record { day = 1; month = d.month + 1; year = d.year })
    (record { day = 1; month = 1; year = d.year + 1 }))

-- the day before it in the month; before the first one the last of the month before; before 1 January 31 December
unfoldable pub day_before : Date → Date
day_before d =
    cond (ltb 1 d.day) (record { day = d.day - 1; month = d.month; year = d.year })
    (cond (ltb 1 d.month) (record { day = days_in (d.month - 1) d.year; month = d.month - 1; year = d.year })
    (record { day = 31; month = 12; year = d.year - 1 }))

-- the years to which a date is rolled
abbrev pub in_years : ℕ → Bool
in_years y = leb 1999 y && leb y 65535

-- what a roll answers, by number: 0 and a date rolled, or a refusal's and the date as it was
pub record Rolled : Type 0 where
  pub refusal : ℕ
  pub date : Date

abbrev pub granted_to : Date → Rolled
granted_to d = record { refusal = 0; date = d }

-- refused, the date is as before
abbrev pub refused_at : Date → Rolled
refused_at d = record { refusal = 18; date = d }

-- the answer that a call returned for d
abbrev pub rolled : Date → Result Date Refusal → Rolled
rolled d (Ok t) = granted_to t
rolled d (Err r) = record { refusal = number r; date = d }

-- d rolled to t: d exists, its year is not below 1999, and that of t is from 1999 to 65,535
unfoldable pub rolled_to : Date → Date → Rolled
rolled_to d t = cond (exists d && leb 1999 d.year && in_years t.year) (granted_to t) (refused_at d)

abbrev pub forward_of : Date → Rolled
forward_of d = rolled_to d (day_after d)

abbrev pub back_of : Date → Rolled
back_of d = rolled_to d (day_before d)
