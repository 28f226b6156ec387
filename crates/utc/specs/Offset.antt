-- Document 02, Point 6: the offset of GPS time from UTC, from 4Bh data, a second of the week and a week.
-- Floats are the library's: `mul` and `add` round once, to the nearest binary64; `of_int` is an integer's float.
use Rattle.std.specs.Prelude.{Bool, not, cond, ◌&&◌, List, ℕ, ◌+◌, eqb, leb, ℤ, pos, ◌+ℤ◌, ◌-ℤ◌, ◌*ℤ◌, Float, Result, Ok, Err}
use Rattle.std.proofs.Math.Option.{Option, none, some}
use Rattle.std.specs.Float.{binary64}
use Rattle.std.specs.Float.Ieee.{mul, add, of_int, of_bits}
use Rattle.std.specs.Float.Ieee.Scale.{finite}
use Rattle.refusals.specs.declared.Refusal.{Refusal}
use Rattle.refusals.specs.Numbers.{number}
use Rattle.kinds.specs.Kinds.{content}
use Rattle.fields_4b.specs.Fields.{fields_of}
use Rattle.fields_4b.specs.declared.Scales.{Scales}

-- dt, the seconds from the message's own time: an integer. Weeks are plain numbers: nothing wraps at 1,024.
abbrev pub elapsed : ℕ → ℕ → ℕ → ℕ → ℤ
elapsed second tot week wnt = pos second -ℤ pos tot +ℤ pos 604800 *ℤ (pos week -ℤ pos wnt)

-- A1 times dt, plus A0, plus the leap count: three steps, each rounded once, in this order
unfoldable pub polynomial : Float → Float → ℤ → ℤ → Float
polynomial a0 a1 dt leap = add binary64 (add binary64 (mul binary64 a1 (of_int binary64 dt)) a0) (of_int binary64 leap)

-- question 15: t and tot are seconds of a week, and the weeks differ by at most 127, either way
unfoldable pub in_time : ℕ → ℕ → ℕ → ℕ → Bool
in_time second tot week wnt = leb second 604799 && leb tot 604799 && leb week (wnt + 127) && leb wnt (week + 127)

-- questions 14 to 16, in their order: the number of the first that refuses, 0 where none does
unfoldable pub refusal_of : Scales → ℕ → ℕ → ℕ
refusal_of f second week =
    cond (not (eqb f.gps_reliable 255)) 14
    (cond (not (in_time second f.tot week f.wnt)) 15
    (cond (not (finite (of_bits binary64 f.a0) && finite (of_bits binary64 f.a1))) 16
    0))

-- the offset, from fields. The leap count is dt_LS, whatever WN_LSF and DN announce.
unfoldable pub seconds_of : Scales → ℕ → ℕ → Float
seconds_of f second week =
    polynomial (of_bits binary64 f.a0) (of_bits binary64 f.a1) (elapsed second f.tot week f.wnt) f.dt_ls

-- the paper's answer: a number, 0 where nothing is refused, and an offset, which a refusal doesn't give
pub record Answer : Type 0 where
  pub number : ℕ
  pub value : Option Float

abbrev pub gives : Float → Answer
gives x = record { number = 0; value = some x }

abbrev pub refuses : ℕ → Answer
refuses v = record { number = v; value = none }

-- the answer that a call returned
abbrev pub answer_of : Result Float Refusal → Answer
answer_of (Ok x) = gives x
answer_of (Err r) = refuses (number r)

unfoldable pub from_fields : Scales → ℕ → ℕ → Answer
from_fields f second week = cond (eqb (refusal_of f second week) 0) (gives (seconds_of f second week)) (refuses (refusal_of f second week))

-- from data: what refuses the message, 11 or 12, comes first
unfoldable pub offset_of : List ℕ → ℕ → ℕ → Answer
offset_of d second week = cond (eqb (content 0x4B d) 0) (from_fields (fields_of d) second week) (refuses (content 0x4B d))
