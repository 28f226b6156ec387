-- A date that exists is the only one with its number.
use mathlib.Core.Path.{◌≡◌, refl, ap, ◌∙◌}
use mathlib.Core.Bool.{Bool, true, false}
use Prim.Native.Nat.{ℕ, zero, suc, ◌+◌, ◌-◌, ◌≤◌, ◌<◌}
use native.Mathlib.Omega.{arith}
use borrow.Author.Tests.{ltb-true, ltb-false}
use lib.Dec.{ltb}
use Rattle.calendar.specs.Calendar.{days_in, sum_from, days_of_year}
use Rattle.dates.specs.declared.Date.{Date}
use Rattle.dates.specs.Meaning.{day_number}
use Rattle.dates.proofs.DayLaws.{Day, sum_suc}

-- ---- sums grow, so a number lies between two next ones in one place

module _ (a : ℕ) (f : ℕ → ℕ) where
  grows : (i k : ℕ) → sum_from a i f ≤ sum_from a (i + k) f
  grows i zero = let e : sum_from a (i + 0) f ≡ sum_from a i f = ap (λ (j : ℕ). sum_from a j f) (omega arith) in omega arith
  grows i (suc k) =
      let h = grows i k in
      let e : sum_from a (i + suc k) f ≡ sum_from a (i + k) f + f (a + (i + k)) = ap (λ (j : ℕ). sum_from a j f) (omega arith) ∙ sum_suc a (i + k) f in
      omega arith

  pub below : (i j : ℕ) → i ≤ j → sum_from a i f ≤ sum_from a j f
  below i j h =
      let e : sum_from a (i + (j - i)) f ≡ sum_from a j f = ap (λ (k : ℕ). sum_from a k f) (omega arith) in
      let g = grows i (j - i) in
      omega arith

  -- n is one of the numbers that place i adds
  record Place (n i : ℕ) : Type 0 where
    from : sum_from a i f < n
    to : n ≤ sum_from a (suc i) f

  not_later : (n i j : ℕ) → Place n i → Place n j → i ≤ j
  not_later n i j p q = go (ltb j i) refl
    where
      go : (t : Bool) → ltb j i ≡ t → i ≤ j
      go true e = let h = below (suc j) i (ltb-true j i e) in absurd (omega (arith, p.from, q.to, h))
      go false e = ltb-false j i e

  one_place : (n i j : ℕ) → Place n i → Place n j → i ≡ j
  one_place n i j p q = omega (arith, not_later n i j p q, not_later n j i q p)

-- ---- the day's place in its year, and the year's

abbrev in_year : Date → ℕ
in_year d = sum_from 1 (d.month - 1) (λ m. days_in m d.year) + d.day

number_is : (d : Date) → day_number d ≡ sum_from 0 d.year days_of_year + in_year d
unfolding day_number
number_is d = omega arith

pub number_pos : (d : Date) → Day d → 1 ≤ day_number d
number_pos d k = omega (arith, number_is d, k.first)

module _ (d : Date) (k : Day d) where
  month_place : Place 1 (λ m. days_in m d.year) (in_year d) (d.month - 1)
  month_place =
      let i : 1 + (d.month - 1) ≡ d.month = omega (arith, k.low) in
      let e : sum_from 1 (suc (d.month - 1)) (λ m. days_in m d.year) ≡ sum_from 1 (d.month - 1) (λ m. days_in m d.year) + days_in d.month d.year =
      sum_suc 1 (d.month - 1) (λ m. days_in m d.year) ∙ ap (λ (j : ℕ). sum_from 1 (d.month - 1) (λ m. days_in m d.year) + days_in j d.year) i in
      record { from = omega (arith, k.first); to = omega (arith, k.last, e) }

  within_year : in_year d ≤ days_of_year d.year
  unfolding days_of_year
  within_year = omega (arith, month_place.to, below 1 (λ m. days_in m d.year) (suc (d.month - 1)) 12 (omega (arith, k.low, k.high)))

  year_place : Place 0 days_of_year (day_number d) d.year
  year_place =
      let e : sum_from 0 (suc d.year) days_of_year ≡ sum_from 0 d.year days_of_year + days_of_year d.year =
      sum_suc 0 d.year days_of_year ∙ ap (λ (j : ℕ). sum_from 0 d.year days_of_year + days_of_year j) (omega arith) in
      record { from = omega (arith, number_is d, k.first); to = omega (arith, number_is d, within_year, e) }

pub one_date : (d e : Date) → Day d → Day e → day_number d ≡ day_number e → d ≡ e
one_date d e k l n =
    let y : d.year ≡ e.year = one_place 0 days_of_year (day_number d) d.year e.year (year_place d k) (rw n (year_place e l)) in
    let s : sum_from 0 d.year days_of_year ≡ sum_from 0 e.year days_of_year = ap (λ (j : ℕ). sum_from 0 j days_of_year) y in
    let i : in_year d ≡ in_year e = omega (arith, number_is d, number_is e) in
    let q : Place 1 (λ m. days_in m d.year) (in_year d) (e.month - 1) = rw (i, y) (month_place e l) in
    let p : d.month - 1 ≡ e.month - 1 = one_place 1 (λ m. days_in m d.year) (in_year d) (d.month - 1) (e.month - 1) (month_place d k) q in
    let m : d.month ≡ e.month = omega (arith, k.low, l.low) in
    let t : sum_from 1 (d.month - 1) (λ j. days_in j d.year) ≡ sum_from 1 (e.month - 1) (λ j. days_in j e.year) =
    (λ r. sum_from 1 (p r) (λ j. days_in j (y r))) in
    let o : d.day ≡ e.day = omega arith in
    λ r. record { day = o r; month = m r; year = y r }
