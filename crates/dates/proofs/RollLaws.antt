-- A roll, question by question, and the day that it leads to, by where in its month and year a date stands.
use mathlib.Core.Path.{◌≡◌, refl, sym, ap, ◌∙◌}
use mathlib.Core.Bool.{Bool, true, false, cond, ◌&&◌, and-eq-true_iff}
use Prim.Native.Nat.{ℕ, ◌+◌, ◌-◌, ◌≤◌, ◌<◌}
use native.Mathlib.Omega.{arith}
use borrow.Author.Tests.{lt-ltb, le-ltb, le-leb, lt-leb, leb-true}
use lib.Dec.{leb}
use Rattle.calendar.specs.Calendar.{days_in}
use Rattle.dates.specs.declared.Date.{Date}
use Rattle.dates.specs.Dates.{exists, day_after, day_before, in_years, granted_to, refused_at, rolled_to, forward_of, back_of}

-- what is asked of the date to be rolled
abbrev pub rollable : Date → Bool
rollable d = exists d && leb 1999 d.year

in_years_lem : (y : ℕ) → 1999 ≤ y → y ≤ 65535 → in_years y ≡ true
in_years_lem y l h = rw (le-leb 1999 y l, le-leb y 65535 h)

module _ (d t : Date) where
  pub not_rollable : rollable d ≡ false → refused_at d ≡ rolled_to d t
  unfolding rolled_to
  not_rollable e = ap (λ (b : Bool). cond (b && in_years t.year) (granted_to t) (refused_at d)) (sym e)

  no_such_year : in_years t.year ≡ false → refused_at d ≡ rolled_to d t
  unfolding rolled_to
  no_such_year e = rw e (go (rollable d))
    where
      go : (b : Bool) → refused_at d ≡ cond (b && false) (granted_to t) (refused_at d)
      go true = refl
      go false = refl

  pub is_rolled : rollable d ≡ true → 1999 ≤ t.year → t.year ≤ 65535 → granted_to t ≡ rolled_to d t
  unfolding rolled_to
  is_rolled e l h = λ k. cond (sym e k && sym (in_years_lem t.year l h) k) (granted_to t) (refused_at d)

year_from : (d : Date) → rollable d ≡ true → 1999 ≤ d.year
year_from d e = leb-true 1999 d.year ((and-eq-true_iff (exists d) (leb 1999 d.year)).0 e).1

-- ---- the day after and the day before

module _ (d : Date) where
  abbrev last : ℕ
  last = days_in d.month d.year

  pub next_day : d.day < last → day_after d ≡ record { day = d.day + 1; month = d.month; year = d.year }
  unfolding day_after
  next_day h = rw (lt-ltb d.day last h)

  pub next_month : last ≤ d.day → d.month < 12 → day_after d ≡ record { day = 1; month = d.month + 1; year = d.year }
  unfolding day_after
  next_month h m = rw (le-ltb d.day last h, lt-ltb d.month 12 m)

  pub next_year : last ≤ d.day → 12 ≤ d.month → day_after d ≡ record { day = 1; month = 1; year = d.year + 1 }
  unfolding day_after
  next_year h m = rw (le-ltb d.day last h, le-ltb d.month 12 m)

  pub earlier_day : 1 < d.day → day_before d ≡ record { day = d.day - 1; month = d.month; year = d.year }
  unfolding day_before
  earlier_day h = rw (lt-ltb 1 d.day h)

  pub earlier_month : d.day ≤ 1 → 1 < d.month
      → day_before d ≡ record { day = days_in (d.month - 1) d.year; month = d.month - 1; year = d.year }
  unfolding day_before
  earlier_month h m = rw (le-ltb 1 d.day h, lt-ltb 1 d.month m)

  pub earlier_year : d.day ≤ 1 → d.month ≤ 1 → day_before d ≡ record { day = 31; month = 12; year = d.year - 1 }
  unfolding day_before
  earlier_year h m = rw (le-ltb 1 d.day h, le-ltb 1 d.month m)

  -- ---- what each way of the two functions returns

  module _ (e : rollable d ≡ true) where
    to : (t u : Date) → u ≡ t → 1999 ≤ t.year → t.year ≤ 65535 → granted_to t ≡ rolled_to d u
    to t u q l h = is_rolled d t e l h ∙ ap (rolled_to d) (sym q)

    pub forward_day : d.year ≤ 65535 → d.day < last → granted_to (record { day = d.day + 1; month = d.month; year = d.year }) ≡ forward_of d
    forward_day y h = to _ (day_after d) (next_day h) (year_from d e) y

    pub forward_month : d.year ≤ 65535 → last ≤ d.day → d.month < 12
        → granted_to (record { day = 1; month = d.month + 1; year = d.year }) ≡ forward_of d
    forward_month y h m = to _ (day_after d) (next_month h m) (year_from d e) y

    pub forward_year : last ≤ d.day → 12 ≤ d.month → d.year < 65535
        → granted_to (record { day = 1; month = 1; year = d.year + 1 }) ≡ forward_of d
    forward_year h m y = to _ (day_after d) (next_year h m) (omega (arith, year_from d e)) (omega arith)

    pub back_day : d.year ≤ 65535 → 1 < d.day → granted_to (record { day = d.day - 1; month = d.month; year = d.year }) ≡ back_of d
    back_day y h = to _ (day_before d) (earlier_day h) (year_from d e) y

    pub back_month : (n : ℕ) → n ≡ days_in (d.month - 1) d.year → d.year ≤ 65535 → d.day ≤ 1 → 1 < d.month
        → granted_to (record { day = n; month = d.month - 1; year = d.year }) ≡ back_of d
    back_month n q y h m =
        ap (λ (i : ℕ). granted_to (record { day = i; month = d.month - 1; year = d.year })) q
        ∙ to _ (day_before d) (earlier_month h m) (year_from d e) y

    pub back_year : d.year ≤ 65535 → d.day ≤ 1 → d.month ≤ 1 → 1999 < d.year
        → granted_to (record { day = 31; month = 12; year = d.year - 1 }) ≡ back_of d
    back_year y h m l = to _ (day_before d) (earlier_year h m) (omega arith) (omega arith)

  pub forward_end : last ≤ d.day → 12 ≤ d.month → 65535 ≤ d.year → refused_at d ≡ forward_of d
  forward_end h m y =
      no_such_year d (day_after d)
      (ap (λ (t : Date). in_years t.year) (next_year h m) ∙ rw (lt-leb (d.year + 1) 65535 (omega arith)) (and_false (leb 1999 (d.year + 1))))
    where
      and_false : (b : Bool) → b && false ≡ false
      and_false true = refl
      and_false false = refl

  pub back_end : d.day ≤ 1 → d.month ≤ 1 → d.year ≤ 1999 → refused_at d ≡ back_of d
  back_end h m y =
      no_such_year d (day_before d)
      (ap (λ (t : Date). in_years t.year) (earlier_year h m) ∙ rw (lt-leb 1999 (d.year - 1) (omega arith)))
