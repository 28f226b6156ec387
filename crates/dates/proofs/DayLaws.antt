-- The day after and the day before of a date that exists: they exist, each undoes the other, and their numbers are one apart.
use mathlib.Core.Path.{◌≡◌, refl, sym, ap, ◌∙◌}
use mathlib.Core.Bool.{true}
use mathlib.Core.Logic.{◌⊎◌, inl, inr}
use Prim.Native.Nat.{ℕ, suc, ◌+◌, ◌-◌, ◌≤◌, ◌<◌}
use native.Mathlib.Nat.{eq-or-lt_of_le}
use native.Mathlib.Omega.{arith}
use Rattle.calendar.specs.Calendar.{days_in, sum_from, days_of_year}
use Rattle.calendar.proofs.CalendarLaws.{december, month_begins, in_month, is_there, date_within}
use Rattle.dates.specs.declared.Date.{Date}
use Rattle.dates.specs.Dates.{exists, day_after, day_before}
use Rattle.dates.specs.Meaning.{day_number}
use Rattle.dates.proofs.RollLaws.{next_day, next_month, next_year, earlier_day, earlier_month, earlier_year}

abbrev last_day : Date → ℕ
last_day d = days_in d.month d.year

pub record Day (d : Date) : Type 0 where
  pub first : 1 ≤ d.day
  pub last : d.day ≤ last_day d
  pub low : 1 ≤ d.month
  pub high : d.month ≤ 12

pub day_of : (d : Date) → exists d ≡ true → Day d
day_of d e =
    let i = in_month d.day d.month d.year e in
    let w = date_within d.day d.month d.year e in
    record { first = i.0; last = i.1; low = w.low; high = w.high }

there : (d : Date) → 1 ≤ d.day → d.day ≤ last_day d → exists d ≡ true
there d l h = is_there d.day d.month d.year l h

-- ---- where a date stands, looking on and looking back

pub data Ahead (d : Date) : Type 0 where
  in_the_month : d.day < last_day d → Ahead d
  in_the_year : d.day ≡ last_day d → d.month < 12 → Ahead d
  at_the_end : d.day ≡ 31 → d.month ≡ 12 → Ahead d

pub ahead : (d : Date) → Day d → Ahead d
ahead d k = go (eq-or-lt_of_le k.last) (eq-or-lt_of_le k.high)
  where
    go : (d.day ≡ last_day d) ⊎ (d.day < last_day d) → (d.month ≡ 12) ⊎ (d.month < 12) → Ahead d
    go (inr h) x = Ahead.in_the_month h
    go (inl e) (inr h) = Ahead.in_the_year e h
    go (inl e) (inl m) = Ahead.at_the_end (e ∙ ap (λ (i : ℕ). days_in i d.year) m ∙ december d.year) m

pub data Behind (d : Date) : Type 0 where
  in_the_month : 1 < d.day → Behind d
  in_the_year : d.day ≡ 1 → 1 < d.month → Behind d
  at_the_start : d.day ≡ 1 → d.month ≡ 1 → Behind d

pub behind : (d : Date) → Day d → Behind d
behind d k = go (eq-or-lt_of_le k.first) (eq-or-lt_of_le k.low)
  where
    go : (1 ≡ d.day) ⊎ (1 < d.day) → (1 ≡ d.month) ⊎ (1 < d.month) → Behind d
    go (inr h) x = Behind.in_the_month h
    go (inl e) (inr h) = Behind.in_the_year (sym e) h
    go (inl e) (inl m) = Behind.at_the_start (sym e) (sym m)

module _ (d : Date) where
  pub ends : d.day ≡ 31 → d.month ≡ 12 → last_day d ≤ d.day
  ends e m = let l : last_day d ≡ 31 = ap (λ (i : ℕ). days_in i d.year) m ∙ december d.year in omega arith

  -- ---- they exist

  pub after_exists : Day d → exists (day_after d) ≡ true
  after_exists k = go (ahead d k)
    where
      go : Ahead d → exists (day_after d) ≡ true
      go (Ahead.in_the_month h) = ap exists (next_day d h) ∙ there (record { day = d.day + 1; month = d.month; year = d.year }) (omega arith) (omega arith)
      go (Ahead.in_the_year e h) =
          ap exists (next_month d (omega arith) h)
          ∙ there (record { day = 1; month = d.month + 1; year = d.year }) (omega arith) (month_begins (d.month + 1) d.year (omega arith) (omega arith))
      go (Ahead.at_the_end e m) =
          ap exists (next_year d (ends e m) (omega arith))
          ∙ there (record { day = 1; month = 1; year = d.year + 1 }) (omega arith) (month_begins 1 (d.year + 1) (omega arith) (omega arith))

  pub before_exists : Day d → exists (day_before d) ≡ true
  before_exists k = go (behind d k)
    where
      go : Behind d → exists (day_before d) ≡ true
      go (Behind.in_the_month h) =
          ap exists (earlier_day d h)
          ∙ there (record { day = d.day - 1; month = d.month; year = d.year }) (omega arith) (let l = k.last in omega arith)
      go (Behind.in_the_year e h) =
          let b = month_begins (d.month - 1) d.year (omega arith) (let t = k.high in omega arith) in
          ap exists (earlier_month d (omega arith) h)
          ∙ there (record { day = days_in (d.month - 1) d.year; month = d.month - 1; year = d.year }) b (omega arith)
      go (Behind.at_the_start e m) =
          ap exists (earlier_year d (omega arith) (omega arith))
          ∙ there (record { day = 31; month = 12; year = d.year - 1 }) (omega arith) (let t = december (d.year - 1) in omega arith)

  -- ---- each undoes the other

  pub before_after : Day d → day_before (day_after d) ≡ d
  before_after k = go (ahead d k)
    where
      go : Ahead d → day_before (day_after d) ≡ d
      go (Ahead.in_the_month h) =
          let n : Date = record { day = d.day + 1; month = d.month; year = d.year } in
          let e : d.day + 1 - 1 ≡ d.day = omega arith in
          ap day_before (next_day d h) ∙ earlier_day n (let f = k.first in omega arith) ∙ (λ i. record { day = e i; month = d.month; year = d.year })
      go (Ahead.in_the_year l h) =
          let n : Date = record { day = 1; month = d.month + 1; year = d.year } in
          let e : d.month + 1 - 1 ≡ d.month = omega arith in
          let f : days_in (d.month + 1 - 1) d.year ≡ d.day = ap (λ (i : ℕ). days_in i d.year) e ∙ sym l in
          ap day_before (next_month d (omega arith) h) ∙ earlier_month n (omega arith) (let t = k.low in omega arith)
          ∙ (λ i. record { day = f i; month = e i; year = d.year })
      go (Ahead.at_the_end l m) =
          let n : Date = record { day = 1; month = 1; year = d.year + 1 } in
          let e : d.year + 1 - 1 ≡ d.year = omega arith in
          ap day_before (next_year d (ends l m) (omega arith)) ∙ earlier_year n (omega arith) (omega arith)
          ∙ (λ i. record { day = sym l i; month = sym m i; year = e i })

  pub after_before : Day d → 1 ≤ d.year → day_after (day_before d) ≡ d
  after_before k y = go (behind d k)
    where
      go : Behind d → day_after (day_before d) ≡ d
      go (Behind.in_the_month h) =
          let n : Date = record { day = d.day - 1; month = d.month; year = d.year } in
          let e : d.day - 1 + 1 ≡ d.day = omega arith in
          ap day_after (earlier_day d h) ∙ next_day n (let l = k.last in omega arith) ∙ (λ i. record { day = e i; month = d.month; year = d.year })
      go (Behind.in_the_year f h) =
          let n : Date = record { day = days_in (d.month - 1) d.year; month = d.month - 1; year = d.year } in
          let e : d.month - 1 + 1 ≡ d.month = omega arith in
          ap day_after (earlier_month d (omega arith) h) ∙ next_month n (omega arith) (let t = k.high in omega arith)
          ∙ (λ i. record { day = sym f i; month = e i; year = d.year })
      go (Behind.at_the_start f m) =
          let n : Date = record { day = 31; month = 12; year = d.year - 1 } in
          let e : d.year - 1 + 1 ≡ d.year = omega arith in
          ap day_after (earlier_year d (omega arith) (omega arith)) ∙ next_year n (let t = december (d.year - 1) in omega arith) (omega arith)
          ∙ (λ i. record { day = sym f i; month = sym m i; year = e i })

  -- ---- the year is not earlier

  pub after_year : Day d → d.year ≤ (day_after d).year
  after_year k = go (ahead d k)
    where
      go : Ahead d → d.year ≤ (day_after d).year
      go (Ahead.in_the_month h) = rw (next_day d h) (omega arith)
      go (Ahead.in_the_year e h) = rw (next_month d (omega arith) h) (omega arith)
      go (Ahead.at_the_end e m) = rw (next_year d (ends e m) (omega arith)) (omega arith)

-- ---- the numbers are one apart

pub sum_suc : (a n : ℕ) (f : ℕ → ℕ) → sum_from a (suc n) f ≡ sum_from a n f + f (a + n)
unfolding sum_from
sum_suc a n f = refl

-- the months before the next one are those before this one, and this one
months_more : (m : ℕ) (f : ℕ → ℕ) → 1 ≤ m → sum_from 1 (m + 1 - 1) f ≡ sum_from 1 (m - 1) f + f m
months_more m f h =
    let p : m + 1 - 1 ≡ suc (m - 1) = omega arith in
    let q : 1 + (m - 1) ≡ m = omega arith in
    ap (λ (i : ℕ). sum_from 1 i f) p ∙ sum_suc 1 (m - 1) f ∙ ap (λ (i : ℕ). sum_from 1 (m - 1) f + f i) q

year_more : (y : ℕ) → sum_from 0 (y + 1) days_of_year ≡ sum_from 0 y days_of_year + days_of_year y
year_more y =
    let p : y + 1 ≡ suc y = omega arith in
    let q : 0 + y ≡ y = omega arith in
    ap (λ (i : ℕ). sum_from 0 i days_of_year) p ∙ sum_suc 0 y days_of_year ∙ ap (λ (i : ℕ). sum_from 0 y days_of_year + days_of_year i) q

-- a year's days are those of the months before December, and December's
year_ends : (y : ℕ) → days_of_year y ≡ sum_from 1 11 (λ m. days_in m y) + 31
unfolding days_of_year
year_ends y = sum_suc 1 11 (λ m. days_in m y) ∙ ap (λ (i : ℕ). sum_from 1 11 (λ m. days_in m y) + i) (december y)

sum_none : (a : ℕ) (f : ℕ → ℕ) → sum_from a 0 f ≡ 0
unfolding sum_from
sum_none a f = refl

pub after_number : (d : Date) → Day d → day_number (day_after d) ≡ day_number d + 1
unfolding day_number
after_number d k = go (ahead d k)
  where
    go : Ahead d → day_number (day_after d) ≡ day_number d + 1
    go (Ahead.in_the_month h) = rw (next_day d h) (omega arith)
    go (Ahead.in_the_year e h) =
        let s = months_more d.month (λ m. days_in m d.year) k.low in
        rw (next_month d (omega arith) h) (omega arith)
    go (Ahead.at_the_end e m) =
        let y = year_more d.year in
        let t = year_ends d.year in
        let z = sum_none 1 (λ m. days_in m (d.year + 1)) in
        let i : d.month - 1 ≡ 11 = omega arith in
        rw (next_year d (ends d e m) (omega arith), i) (omega arith)

pub before_number : (d : Date) → Day d → 1 ≤ d.year → day_number (day_before d) + 1 ≡ day_number d
before_number d k y = sym (after_number (day_before d) (day_of (day_before d) (before_exists d k))) ∙ ap day_number (after_before d k y)
