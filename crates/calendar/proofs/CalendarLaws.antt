-- The calendar adds up: a common year has 365 days, a leap year 366, any 400 years in a row 146,097. And what it is
-- for a date to exist: which days a month has, and that such a date is within document 01's ranges of day and month.
use mathlib.Core.Bool.{Bool, true, false, cond, ◌&&◌, ◌||◌, and-eq-true_iff}
use mathlib.Core.Path.{◌≡◌, refl, sym, ap, ◌∙◌}
use Prim.Native.Nat.{ℕ, zero, suc, ◌+◌, ◌%◌, ◌≤◌, ◌<◌}
use native.Mathlib.Omega.{arith}
use borrow.Author.Tests.{ne_eqb, le-leb, lt-leb, leb-true, leb-false}
use lib.Dec.{eqb, leb}
use Rattle.calendar.specs.Calendar.{leap, days_in, date_exists, sum_from, days_of_year}

-- a year's days, by whether it is a leap year
year_days : (y : ℕ) → days_of_year y ≡ cond (leap y) 366 365
unfolding days_of_year sum_from days_in
year_days y = by (leap y)
  where
    by : (t : Bool) → 31 + cond t 29 28 + 31 + 30 + 31 + 30 + 31 + 31 + 30 + 31 + 30 + 31 ≡ cond t 366 365
    by true = refl
    by false = refl

pub common_365 : (y : ℕ) → leap y ≡ false → days_of_year y ≡ 365
common_365 y e = year_days y ∙ ap (λ (t : Bool). cond t 366 365) e

pub leap_366 : (y : ℕ) → leap y ≡ true → days_of_year y ≡ 366
leap_366 y e = year_days y ∙ ap (λ (t : Bool). cond t 366 365) e

-- leap years come again after 400 years
leap_again : (y : ℕ) → leap (y + 400) ≡ leap y
unfolding leap
leap_again y =
    let a : (y + 400) % 4 ≡ y % 4 = omega arith in
    let b : (y + 400) % 100 ≡ y % 100 = omega arith in
    let c : (y + 400) % 400 ≡ y % 400 = omega arith in
    rw (a, b, c)

days_again : (y : ℕ) → days_of_year (y + 400) ≡ days_of_year y
days_again y = year_days (y + 400) ∙ ap (λ (t : Bool). cond t 366 365) (leap_again y) ∙ sym (year_days y)

-- a sum by its first number
sum_first : (f : ℕ → ℕ) (a n : ℕ) → f a + sum_from (suc a) n f ≡ sum_from a n f + f (a + n)
unfolding sum_from
sum_first f a zero = let e : f (a + 0) ≡ f a = ap f (omega arith) in omega arith
sum_first f a (suc n) =
    let e : f (suc a + n) ≡ f (a + suc n) = ap f (omega arith) in
    let h = sum_first f a n in
    omega arith

-- and as many numbers, one later
sum_later : (f : ℕ → ℕ) (a n : ℕ) → f (a + n) ≡ f a → sum_from (suc a) n f ≡ sum_from a n f
sum_later f a n e = let h = sum_first f a n in omega arith

from_0 : sum_from 0 400 days_of_year ≡ 146097
unfolding sum_from days_of_year days_in leap
from_0 = refl

pub years_400 : (y : ℕ) → sum_from y 400 days_of_year ≡ 146097
years_400 zero = from_0
years_400 (suc y) = sum_later days_of_year y 400 (days_again y) ∙ years_400 y

-- no month has more than 31 days, and there is none after 12 and none before 1
le_31 : (m y : ℕ) → days_in m y ≤ 31
unfolding days_in
le_31 m y = by (eqb m 2) (leap y) (eqb m 4 || eqb m 6 || eqb m 9 || eqb m 11) (leb 1 m && leb m 12)
  where
    by : (a b c e : Bool) → cond a (cond b 29 28) (cond c 30 (cond e 31 0)) ≤ 31
    by true true c e = omega arith
    by true false c e = omega arith
    by false b true e = omega arith
    by false b false true = omega arith
    by false b false false = omega arith

above_12 : (m y : ℕ) → 12 < m → days_in m y ≡ 0
unfolding days_in
above_12 m y h =
    simp (
      ne_eqb m 2 (λ e. omega arith),
      ne_eqb m 4 (λ e. omega arith),
      ne_eqb m 6 (λ e. omega arith),
      ne_eqb m 9 (λ e. omega arith),
      ne_eqb m 11 (λ e. omega arith),
      le-leb 1 m (omega arith),
      lt-leb m 12 h,
    )

month_0 : (y : ℕ) → days_in 0 y ≡ 0
unfolding days_in
month_0 y = refl

pub december : (y : ℕ) → days_in 12 y ≡ 31
unfolding days_in
december y = refl

-- each of the twelve months has a first day
pub month_begins : (m y : ℕ) → 1 ≤ m → m ≤ 12 → 1 ≤ days_in m y
unfolding days_in
month_begins m y l h = rw (le-leb 1 m l, le-leb m 12 h) (by (eqb m 2) (leap y) (eqb m 4 || eqb m 6 || eqb m 9 || eqb m 11))
  where
    by : (a b c : Bool) → 1 ≤ cond a (cond b 29 28) (cond c 30 31)
    by true true c = omega arith
    by true false c = omega arith
    by false b true = omega arith
    by false b false = omega arith

pub in_month : (d m y : ℕ) → date_exists d m y ≡ true → (1 ≤ d) × (d ≤ days_in m y)
unfolding date_exists
in_month d m y e =
    let t = (and-eq-true_iff (leb 1 d) (leb d (days_in m y))).0 e in
    (leb-true 1 d t.0, leb-true d (days_in m y) t.1)

pub is_there : (d m y : ℕ) → 1 ≤ d → d ≤ days_in m y → date_exists d m y ≡ true
unfolding date_exists
is_there d m y l h = rw (le-leb 1 d l, le-leb d (days_in m y) h)

pub record Within (d m : ℕ) : Type 0 where
  pub first : 1 ≤ d
  pub last : d ≤ 31
  pub low : 1 ≤ m
  pub high : m ≤ 12

pub date_within : (d m y : ℕ) → date_exists d m y ≡ true → Within d m
date_within d m y e =
    record { first = there.0; last = (let k = le_31 m y in let t = there in omega arith); low = low m there.1; high = high (leb m 12) refl }
  where
    there : (1 ≤ d) × (d ≤ days_in m y)
    there = in_month d m y e

    low : (m : ℕ) → d ≤ days_in m y → 1 ≤ m
    low zero l = let z = month_0 y in let t = there in absurd (omega arith)
    low (suc m) l = omega arith

    high : (t : Bool) → leb m 12 ≡ t → m ≤ 12
    high true q = leb-true m 12 q
    high false q = let z = above_12 m y (leb-false m 12 q) in let t = there in absurd (omega arith)
