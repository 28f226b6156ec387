-- Laws of the numbers: none is 0, and no two refusals have the same.
use Rattle.std.proofs.Common.{◌≡◌, refl, sym, ◌∙◌, ap, cond, eqb, ℕ, ◌+◌, ◌<◌, arith, Result, Ok, Err}
use Rattle.refusals.specs.declared.Refusal.{Refusal}
use Rattle.refusals.specs.declared.Refusal.TheVariants.{Mode, Record, Full, TooLong, Cut, SumMissing, SumUnexpected, EndMissing, SumWrong, Unlisted, Length, Range, Buffer, Unreliable, Time, NotFinite, NoSatellite, Date, List, Mark, Short}
use Rattle.refusals.specs.Numbers.{number, code}

-- the refusal of a number
of_number : ℕ → Refusal
of_number n =
    cond (eqb n 1) Mode (
    cond (eqb n 2) Record (
    cond (eqb n 3) Full (
    cond (eqb n 4) TooLong (
    cond (eqb n 5) Cut (
    cond (eqb n 6) SumMissing (
    cond (eqb n 7) SumUnexpected (
    cond (eqb n 8) EndMissing (
    cond (eqb n 9) SumWrong (
    cond (eqb n 10) Unlisted (
    cond (eqb n 11) Length (
    cond (eqb n 12) Range (
    cond (eqb n 13) Buffer (
    cond (eqb n 14) Unreliable (
    cond (eqb n 15) Time (
    cond (eqb n 16) NotFinite (
    cond (eqb n 17) NoSatellite (
    cond (eqb n 18) Date (
    cond (eqb n 19) List (
    cond (eqb n 20) Mark Short)))))))))))))))))))

of_number_number : (r : Refusal) → of_number (number r) ≡ r
unfolding of_number
of_number_number Mode = refl
of_number_number Record = refl
of_number_number Full = refl
of_number_number TooLong = refl
of_number_number Cut = refl
of_number_number SumMissing = refl
of_number_number SumUnexpected = refl
of_number_number EndMissing = refl
of_number_number SumWrong = refl
of_number_number Unlisted = refl
of_number_number Length = refl
of_number_number Range = refl
of_number_number Buffer = refl
of_number_number Unreliable = refl
of_number_number Time = refl
of_number_number NotFinite = refl
of_number_number NoSatellite = refl
of_number_number Date = refl
of_number_number List = refl
of_number_number Mark = refl
of_number_number Short = refl

-- no two refusals have one number
pub one_number : (a b : Refusal) → number a ≡ number b → a ≡ b
one_number a b e = sym (of_number_number a) ∙ ap of_number e ∙ of_number_number b

-- a refusal's number is not 0
pub positive : (r : Refusal) → number r ≡ 0 → ⊥
positive Mode e = absurd (omega arith)
positive Record e = absurd (omega arith)
positive Full e = absurd (omega arith)
positive TooLong e = absurd (omega arith)
positive Cut e = absurd (omega arith)
positive SumMissing e = absurd (omega arith)
positive SumUnexpected e = absurd (omega arith)
positive EndMissing e = absurd (omega arith)
positive SumWrong e = absurd (omega arith)
positive Unlisted e = absurd (omega arith)
positive Length e = absurd (omega arith)
positive Range e = absurd (omega arith)
positive Buffer e = absurd (omega arith)
positive Unreliable e = absurd (omega arith)
positive Time e = absurd (omega arith)
positive NotFinite e = absurd (omega arith)
positive NoSatellite e = absurd (omega arith)
positive Date e = absurd (omega arith)
positive List e = absurd (omega arith)
positive Mark e = absurd (omega arith)
positive Short e = absurd (omega arith)

-- an answer whose number is 0 is no refusal
pub granted : {A : Type 0} (x : Result A Refusal) → code x ≡ 0 → (a : A) × (x ≡ Ok a)
granted (Ok a) e = (a, refl)
granted (Err r) e = absurd (positive r e)
