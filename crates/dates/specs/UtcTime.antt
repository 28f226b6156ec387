-- Document 02, Point 9: the date and the second of the day in UTC, from 46h data.
use Rattle.std.specs.Prelude.{Bool, true, false, cond, List, ℕ, suc, ◌-◌, ◌%◌, eqb, ltb, ℤ, pos, negsuc, ◌+ℤ◌, ◌-ℤ◌, ◌*ℤ◌, Result, Ok, Err}
use Rattle.std.proofs.Math.Option.{Option, none, some}
use Rattle.refusals.specs.declared.Refusal.{Refusal}
use Rattle.refusals.specs.Numbers.{number}
use Rattle.kinds.specs.Kinds.{content}
use Rattle.fields_46.specs.Fields.{fields_of}
use Rattle.fields_46.specs.declared.Time.{Time}
use Rattle.dates.specs.declared.Date.{Date}
use Rattle.dates.specs.declared.DateTime.{DateTime}
use Rattle.dates.specs.Dates.{Rolled, granted_to, forward_of, back_of}

-- hours and minutes, each with its own sign
abbrev pub zone_seconds : ℤ → ℤ → ℤ
zone_seconds hours minutes = pos 3600 *ℤ hours +ℤ pos 60 *ℤ minutes

abbrev pub local_date : Time → Date
local_date f = record { day = f.day; month = f.month; year = f.year }

-- the second of the local day
abbrev pub local_second : Time → ℕ
local_second f = f.second % 86400

-- the paper's answer: a number, 0 where nothing is refused, and a date and second, which a refusal doesn't give
pub record Answer : Type 0 where
  pub number : ℕ
  pub value : Option DateTime

abbrev pub gives : Date → ℕ → Answer
gives d s = record { number = 0; value = some (record { second = s; date = d }) }

abbrev pub refuses : ℕ → Answer
refuses v = record { number = v; value = none }

-- the answer that a call returned
abbrev pub answer_of : Result DateTime Refusal → Answer
answer_of (Ok t) = gives t.date t.second
answer_of (Err r) = refuses (number r)

-- a second of the day rolled to, if that was granted
abbrev pub on_day : Rolled → ℕ → Answer
on_day r s = cond (eqb r.refusal 0) (gives r.date s) (refuses r.refusal)

-- a second that is counted from the beginning of day d: below 0 it is of the day before, from 86,400 on of the day after
unfoldable pub utc_at : Date → ℤ → Answer
utc_at d (negsuc n) = on_day (back_of d) (86400 - suc n)
utc_at d (pos n) = cond (ltb n 86400) (gives d n) (on_day (forward_of d) (n - 86400))

-- the zone is subtracted
unfoldable pub from_fields : Time → Answer
from_fields f = utc_at (local_date f) (pos (local_second f) -ℤ zone_seconds f.hours f.minutes)

-- from data: what refuses the message, 11 or 12, comes first
unfoldable pub utc_of : List ℕ → Answer
utc_of d = cond (eqb (content 0x46 d) 0) (from_fields (fields_of d)) (refuses (content 0x46 d))

-- ---- what private functions are held to

abbrev pub negative : ℤ → Bool
negative (pos n) = false
negative (negsuc n) = true

-- the day of a second that is counted from the beginning of the day before d
unfoldable pub falls_on : Date → ℕ → Rolled
falls_on d t = cond (ltb t 86400) (back_of d) (cond (ltb t 172800) (granted_to d) (forward_of d))
