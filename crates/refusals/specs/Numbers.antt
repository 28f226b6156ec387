-- The papers' number of each refusal, and of an answer.
use Rattle.std.specs.Prelude.{ℕ, Option, Some, None, Result, Ok, Err}
use Rattle.refusals.specs.declared.Refusal.{Refusal}
use Rattle.refusals.specs.declared.Refusal.TheVariants.{Mode, Record, Full, TooLong, Cut, SumMissing, SumUnexpected, EndMissing, SumWrong, Unlisted, Length, Range, Buffer, Unreliable, Time, NotFinite, NoSatellite, Date, List, Mark, Short}

abbrev pub number : Refusal → ℕ
number Mode = 1
number Record = 2
number Full = 3
number TooLong = 4
number Cut = 5
number SumMissing = 6
number SumUnexpected = 7
number EndMissing = 8
number SumWrong = 9
number Unlisted = 10
number Length = 11
number Range = 12
number Buffer = 13
number Unreliable = 14
number Time = 15
number NotFinite = 16
number NoSatellite = 17
number Date = 18
number List = 19
number Mark = 20
number Short = 21

-- 0 where nothing refuses
abbrev pub code : {A : Type 0} → Result A Refusal → ℕ
code (Ok a) = 0
code (Err r) = number r

-- the number of a refusal that there may be: 0 where there is none
abbrev pub why : Option Refusal → ℕ
why None = 0
why (Some r) = number r

-- the answer with its refusal's number
abbrev pub numbered : {A : Type 0} → Result A Refusal → Result A ℕ
numbered (Ok a) = Ok a
numbered (Err r) = Err (number r)
