-- What rolling does to a date, for any date, and what the time in UTC is, for any data.
use mathlib.Core.Path.{◌≡◌, refl, sym, ap, ◌∙◌}
use mathlib.Core.Bool.{Bool, true, false, cond, ◌&&◌, and-eq-true_iff}
use mathlib.Core.Logic.{◌⊎◌, inl, inr}
use Prim.Native.Nat.{ℕ, ◌+◌, ◌≤◌, ◌<◌}
use native.Mathlib.Nat.{eq-or-lt_of_le}
use native.Mathlib.Omega.{arith}
use borrow.Author.Tests.{le-leb, leb-true}
use lib.Dec.{leb}
use Rattle.dates.specs.declared.Date.{Date}
use Rattle.dates.specs.Dates.{Rolled, exists, day_after, day_before, in_years, granted_to, refused_at, rolled_to, forward_of, back_of}
use Rattle.dates.specs.Meaning.{day_number, Called, first_date, last_date}
use Rattle.dates.proofs.RollLaws.{rollable, is_rolled, forward_day, forward_month, forward_year, back_day, back_month, back_year}
use Rattle.dates.proofs.DayLaws as day
use Rattle.dates.proofs.DayLaws.{Day, Ahead, Behind, day_of, ahead, behind}

-- ---- what was asked where a roll was granted

record Granted (d t : Date) : Type 0 where
  is : rolled_to d t ≡ granted_to t
  day : Day d
  from : 1999 ≤ d.year
  low : 1999 ≤ t.year
  high : t.year ≤ 65535

granted : (d t : Date) → (rolled_to d t).refusal ≡ 0 → Granted d t
unfolding rolled_to
granted d t = go (rollable d && in_years t.year) refl
  where
    go : (b : Bool) → rollable d && in_years t.year ≡ b → (cond b (granted_to t) (refused_at d)).refusal ≡ 0 → Granted d t
    go false q z = absurd (omega arith)
    go true q z =
        let both = (and-eq-true_iff (rollable d) (in_years t.year)).0 q in
        let date = (and-eq-true_iff (exists d) (leb 1999 d.year)).0 both.0 in
        let years = (and-eq-true_iff (leb 1999 t.year) (leb t.year 65535)).0 both.1 in
        record {
          is = ap (λ (b : Bool). cond b (granted_to t) (refused_at d)) q;
          day = day_of d date.0;
          from = leb-true 1999 d.year date.1;
          low = leb-true 1999 t.year years.0;
          high = leb-true t.year 65535 years.1;
        }

may_roll : (d : Date) → exists d ≡ true → 1999 ≤ d.year → rollable d ≡ true
may_roll d e y = rw (e, le-leb 1999 d.year y)

-- ---- forward: where it is granted the next day exists, its number is one more, and rolling back restores the date

module _ (d : Date) (z : (forward_of d).refusal ≡ 0) where
  asked : Granted d (day_after d)
  asked = granted d (day_after d) z

  forward_is : (forward_of d).date ≡ day_after d
  forward_is = ap (λ (r : Rolled). r.date) asked.is

  pub forward_exists : exists (forward_of d).date ≡ true
  forward_exists = ap exists forward_is ∙ day.after_exists d asked.day

  pub forward_adds : day_number (forward_of d).date ≡ day_number d + 1
  forward_adds = ap day_number forward_is ∙ day.after_number d asked.day

  pub forward_restored : back_of (forward_of d).date ≡ granted_to d
  forward_restored =
      let e = day.after_exists d asked.day in
      let l = day.after_year d asked.day in
      ap back_of forward_is
      ∙ ap (rolled_to (day_after d)) (day.before_after d asked.day)
      ∙ sym (is_rolled (day_after d) d (may_roll (day_after d) e asked.low) asked.from (omega (arith, l, asked.high)))

-- ---- back: the day before exists, its number is one less, and rolling forward restores the date, whose year has 16 bits

module _ (d : Date) (z : (back_of d).refusal ≡ 0) where
  asked_back : Granted d (day_before d)
  asked_back = granted d (day_before d) z

  back_is : (back_of d).date ≡ day_before d
  back_is = ap (λ (r : Rolled). r.date) asked_back.is

  pub back_exists : exists (back_of d).date ≡ true
  back_exists = ap exists back_is ∙ day.before_exists d asked_back.day

  pub back_takes : day_number (back_of d).date + 1 ≡ day_number d
  back_takes = ap (λ (t : Date). day_number t + 1) back_is ∙ day.before_number d asked_back.day (omega (arith, asked_back.from))

  pub back_restored : d.year ≤ 65535 → forward_of (back_of d).date ≡ granted_to d
  back_restored y =
      let e = day.before_exists d asked_back.day in
      ap forward_of back_is
      ∙ ap (rolled_to (day_before d)) (day.after_before d asked_back.day (omega (arith, asked_back.from)))
      ∙ sym (is_rolled (day_before d) d (may_roll (day_before d) e asked_back.low) asked_back.from y)

-- ---- the same of two calls in place, one after the other

granted_to_lem : (rule : Date → Rolled) (d e g : Date) (w : ℕ) → rule e ≡ granted_to d → Called rule e g w → (w ≡ 0) × (g ≡ d)
granted_to_lem rule d e g w q b = (b.number ∙ ap (λ (r : Rolled). r.refusal) q, b.date ∙ ap (λ (r : Rolled). r.date) q)

module _ (d e g : Date) (v w : ℕ) where
  pub forward_then_back : Called forward_of d e v → Called back_of e g w → v ≡ 0 → (w ≡ 0) × (g ≡ d)
  forward_then_back a b z = granted_to_lem back_of d e g w (ap back_of a.date ∙ forward_restored d (sym a.number ∙ z)) b

  pub back_then_forward : d.year ≤ 65535 → Called back_of d e v → Called forward_of e g w → v ≡ 0 → (w ≡ 0) × (g ≡ d)
  back_then_forward y a b z = granted_to_lem forward_of d e g w (ap forward_of a.date ∙ back_restored d (sym a.number ∙ z) y) b

-- ---- refused, a date is as before, and the number is 18

pub as_before : (d t : Date) → ((rolled_to d t).refusal ≡ 0 → ⊥) → rolled_to d t ≡ refused_at d
unfolding rolled_to
as_before d t = go (exists d && leb 1999 d.year && in_years t.year)
  where
    go : (b : Bool) → ((cond b (granted_to t) (refused_at d)).refusal ≡ 0 → ⊥) → cond b (granted_to t) (refused_at d) ≡ refused_at d
    go true h = absurd (h refl)
    go false h = refl

-- ---- of the dates that exist in the years 1999 to 65,535 the last alone isn't rolled forward, and the first alone not back

refusal_of_lem : (r s : Rolled) → r ≡ s → s.refusal ≡ r.refusal
refusal_of_lem r s e = ap (λ (x : Rolled). x.refusal) (sym e)

module _ (d : Date) (e : exists d ≡ true) (l : 1999 ≤ d.year) (h : d.year ≤ 65535) where
  the_day : Day d
  the_day = day_of d e

  may : rollable d ≡ true
  may = may_roll d e l

  pub only_last : ((forward_of d).refusal ≡ 0 → ⊥) → d ≡ last_date
  only_last stuck = go (ahead d the_day)
    where
      go : Ahead d → d ≡ last_date
      go (Ahead.in_the_month x) = absurd (stuck (refusal_of_lem _ (forward_of d) (forward_day d may h x)))
      go (Ahead.in_the_year x m) = absurd (stuck (refusal_of_lem _ (forward_of d) (forward_month d may h (omega arith) m)))
      go (Ahead.at_the_end x m) = last (eq-or-lt_of_le h)
        where
          last : (d.year ≡ 65535) ⊎ (d.year < 65535) → d ≡ last_date
          last (inl y) = λ i. record { day = x i; month = m i; year = y i }
          last (inr y) = absurd (stuck (refusal_of_lem _ (forward_of d) (forward_year d may (day.ends d x m) (omega arith) y)))

  pub only_first : ((back_of d).refusal ≡ 0 → ⊥) → d ≡ first_date
  only_first stuck = go (behind d the_day)
    where
      go : Behind d → d ≡ first_date
      go (Behind.in_the_month x) = absurd (stuck (refusal_of_lem _ (back_of d) (back_day d may h x)))
      go (Behind.in_the_year x m) = absurd (stuck (refusal_of_lem _ (back_of d) (back_month d may _ refl h (omega arith) m)))
      go (Behind.at_the_start x m) = first (eq-or-lt_of_le l)
        where
          first : (1999 ≡ d.year) ⊎ (1999 < d.year) → d ≡ first_date
          first (inl y) = λ i. record { day = x i; month = m i; year = sym y i }
          first (inr y) = absurd (stuck (refusal_of_lem _ (back_of d) (back_year d may h (omega arith) (omega arith) y)))
