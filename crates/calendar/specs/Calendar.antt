-- The Gregorian calendar (document 02, Point 3).
use Rattle.std.specs.Prelude.{Bool, cond, not, ◌&&◌, ◌||◌, ℕ, zero, suc, ◌+◌, ◌%◌, eqb, leb}

-- by 4, not by 100 unless by 400
unfoldable pub leap : ℕ → Bool
leap y = eqb (y % 4) 0 && (not (eqb (y % 100) 0) || eqb (y % 400) 0)

-- the days of month m in year y; a number other than 1 to 12 is no month and has none
unfoldable pub days_in : ℕ → ℕ → ℕ
days_in m y =
    cond (eqb m 2) (cond (leap y) 29 28)
    (cond (eqb m 4 || eqb m 6 || eqb m 9 || eqb m 11) 30
    (cond (leb 1 m && leb m 12) 31 0))

-- day d of month m in year y is there
unfoldable pub date_exists : ℕ → ℕ → ℕ → Bool
date_exists d m y = leb 1 d && leb d (days_in m y)

-- f a + f (a + 1) + .., n numbers
unfoldable pub sum_from : ℕ → ℕ → (ℕ → ℕ) → ℕ
sum_from a zero f = 0
sum_from a (suc n) f = sum_from a n f + f (a + n)

-- the days of a year: those of its twelve months
unfoldable pub days_of_year : ℕ → ℕ
days_of_year y = sum_from 1 12 (λ m. days_in m y)
