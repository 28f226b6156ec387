-- The second that is counted from the beginning of the day before, the day on which it falls, and how many seconds that makes.
use mathlib.Core.Path.{◌≡◌, refl, sym, ap, ◌∙◌}
use mathlib.Core.Bool.{Bool, true, false, cond}
use mathlib.Core.Option.{Option, none, some, none-ne-some}
use Prim.Native.Nat.{ℕ, ◌+◌, ◌-◌, ◌*◌, ◌%◌, ◌≤◌, ◌<◌}
use native.Mathlib.Omega.{arith}
use borrow.Author.Tests.{eq-eqb, eqb-true, ne_eqb, ltb-true, ltb-false}
use lib.Dec.{eqb, ltb}
use lib.IntN.{ℤ, pos, negsuc, neg_ℤ, nat_abs, ◌+ℤ◌, ◌-ℤ◌, +ℤ_assoc}
use Rattle.calendar.specs.Calendar.{leap, days_in, date_exists}
use Rattle.ranges.specs.Ranges.{zone}
use Rattle.fields_46.specs.declared.Time.{Time}
use Rattle.dates.specs.declared.Date.{Date}
use Rattle.dates.specs.declared.DateTime.{DateTime}
use Rattle.dates.specs.Dates.{Rolled, exists, day_after, granted_to, rolled_to, forward_of, back_of}
use Rattle.dates.specs.UtcTime.{zone_seconds, negative, local_date, local_second, Answer, gives, refuses, on_day, from_fields, falls_on}
use Rattle.dates.specs.Meaning.{day_number, instant, InUtc, last_date, Beyond}
use Rattle.dates.proofs.DayLaws.{day_of}
use Rattle.dates.proofs.NumberLaws.{number_pos}
use Rattle.dates.proofs.ZoneLaws.{sizes, Less, lessened, zone_less}
use Rattle.dates.proofs.FieldLaws.{InRange}
use Rattle.dates.proofs.UtcLaws.{below, falls_before, falls_same, falls_after, counted}
use Rattle.dates.proofs.Theorems as roll

-- ---- the second, counted from the beginning of the day before

abbrev away : Time → ℤ
away f = zone_seconds f.hours f.minutes

pub record Counted (f : Time) : Type 0 where
  pub second : ℕ
  pub small : second < 259200
  pub is : pos second ≡ pos (86400 + local_second f) -ℤ away f

pub count : (f : Time) → zone f.hours f.minutes ≡ true → Counted f
count f z =
    let b = sizes f.hours f.minutes z in
    let t = 86400 + local_second f in
    let n = 3600 * nat_abs f.hours in
    let h : ℕ = cond (negative f.hours) (t + n) (t - n) in
    let p : Less t 3600 f.hours h = lessened t 3600 (nat_abs f.hours) f.hours h refl (omega (arith, b)) refl in
    let m = 60 * nat_abs f.minutes in
    let r : ℕ = cond (negative f.minutes) (h + m) (h - m) in
    let q : Less h 60 f.minutes r = lessened h 60 (nat_abs f.minutes) f.minutes r refl (omega (arith, b, p)) refl in
    record { second = r; small = omega (arith, b, p, q); is = zone_less t h r f.hours f.minutes p.is q.is }

pub from_fields_is : (f : Time) (c : Counted f) → from_fields f ≡ on_day (falls_on (local_date f) c.second) (c.second % 86400)
unfolding from_fields
from_fields_is f c = sym (counted (local_date f) c.second (local_second f) (away f) c.small c.is)

-- ---- an answer on the day rolled to

abbrev or_other : DateTime → Option DateTime → DateTime
or_other u (some t) = t
or_other u none = u

module _ (r : Rolled) (s : ℕ) where
  pub on_number : (on_day r s).number ≡ r.refusal
  on_number = go (eqb r.refusal 0) refl
    where
      go : (b : Bool) → eqb r.refusal 0 ≡ b → (cond b (gives r.date s) (refuses r.refusal)).number ≡ r.refusal
      go true q = sym (eqb-true r.refusal 0 q)
      go false q = refl

  on_value : (t : DateTime) → (on_day r s).value ≡ some t → (r.refusal ≡ 0) × (t ≡ record { second = s; date = r.date })
  on_value t = go (eqb r.refusal 0) refl
    where
      go : (b : Bool) → eqb r.refusal 0 ≡ b → (cond b (gives r.date s) (refuses r.refusal)).value ≡ some t
          → (r.refusal ≡ 0) × (t ≡ record { second = s; date = r.date })
      go true q e = (eqb-true r.refusal 0 q, sym (ap (or_other t) e))
      go false q e = absurd (none-ne-some t e)

  pub on_none : (r.refusal ≡ 0 → ⊥) → (on_day r s).value ≡ none
  on_none h = ap (λ (b : Bool). (cond b (gives r.date s) (refuses r.refusal)).value) (ne_eqb r.refusal 0 h)

  pub on_some : r.refusal ≡ 0 → (on_day r s).value ≡ some (record { second = s; date = r.date })
  on_some z = ap (λ (b : Bool). (cond b (gives r.date s) (refuses r.refusal)).value) (eq-eqb r.refusal 0 z)

-- ---- the day on which a second falls

module _ (l : Date) (t : exists l ≡ true) (s : ℕ) (h : s < 259200) (r : Rolled) (q : r ≡ falls_on l s) (z : r.refusal ≡ 0) where
  record Reached : Type 0 where
    there : exists r.date ≡ true
    counts : instant r.date (s % 86400) ≡ (day_number l - 1) * 86400 + s

  reached : Reached
  reached = go (ltb s 86400) (ltb s 172800) refl refl
    where
      same : (x : Rolled) → x ≡ falls_on l s → r ≡ x
      same x e = q ∙ sym e

      at : (x : Rolled) → r ≡ x → exists x.date ≡ true → instant x.date (s % 86400) ≡ (day_number l - 1) * 86400 + s → Reached
      at x e u n =
          record { there = ap (λ (y : Rolled). exists y.date) e ∙ u; counts = ap (λ (y : Rolled). instant y.date (s % 86400)) e ∙ n }

      go : (a b : Bool) → ltb s 86400 ≡ a → ltb s 172800 ≡ b → Reached
      go true b p o =
          let e = same (back_of l) (falls_before l s (ltb-true s 86400 p)) in
          let y : (back_of l).refusal ≡ 0 = sym (ap (λ (x : Rolled). x.refusal) e) ∙ z in
          at (back_of l) e (roll.back_exists l y) (omega (arith, roll.back_takes l y, ltb-true s 86400 p))
      go false true p o =
          let e = same (granted_to l) (falls_same l s (ltb-false s 86400 p) (ltb-true s 172800 o)) in
          at (granted_to l) e t (omega (arith, number_pos l (day_of l t), ltb-false s 86400 p, ltb-true s 172800 o))
      go false false p o =
          let e = same (forward_of l) (falls_after l s (ltb-false s 172800 o)) in
          let y : (forward_of l).refusal ≡ 0 = sym (ap (λ (x : Rolled). x.refusal) e) ∙ z in
          at (forward_of l) e (roll.forward_exists l y) (omega (arith, number_pos l (day_of l t), roll.forward_adds l y, ltb-false s 172800 o))

-- ---- what is given is the time in UTC

module _ (f : Time) (i : InRange f) (c : Counted f) where
  -- the same count of seconds, in UTC and (local_date f)
  balanced : (n : ℕ) → n ≡ (day_number (local_date f) - 1) * 86400 + c.second → pos n ≡ pos (instant (local_date f) (local_second f)) -ℤ away f
  balanced n e =
      let days = (day_number (local_date f) - 1) * 86400 in
      let all : days + (86400 + local_second f) ≡ instant (local_date f) (local_second f) = omega (arith, number_pos (local_date f) (day_of (local_date f) i.there)) in
      ap pos e
      ∙ ap (λ (y : ℤ). pos days +ℤ y) c.is
      ∙ sym (+ℤ_assoc (pos days) (pos (86400 + local_second f)) (neg_ℤ (away f)))
      ∙ ap (λ (y : ℕ). pos y -ℤ away f) all

  pub time_of_lem : (t : DateTime) → (from_fields f).value ≡ some t → InUtc f t
  time_of_lem t e =
      let r = falls_on (local_date f) c.second in
      let v = on_value r (c.second % 86400) t (sym (ap (λ (a : Answer). a.value) (from_fields_is f c)) ∙ e) in
      let g = reached (local_date f) i.there c.second c.small r refl v.0 in
      let u : InUtc f (record { second = c.second % 86400; date = r.date }) =
      record { there = g.there; second_lt = omega arith; balance = balanced (instant r.date (c.second % 86400)) g.counts } in
      rw v.1 u

-- ---- the last day of all

pub last_refused : (forward_of last_date).refusal ≡ 18
unfolding rolled_to day_after date_exists days_in leap
last_refused = refl

module _ (f : Time) (c : Counted f) where
  from_local : pos c.second ≡ pos 86400 +ℤ (pos (local_second f) -ℤ away f)
  from_local = c.is ∙ +ℤ_assoc (pos 86400) (pos (local_second f)) (neg_ℤ (away f))

  pub over_is : (x : Beyond f) → c.second ≡ 172800 + x.over
  over_is x =
      let e : c.second ≡ 86400 + (86400 + x.over) = ap nat_abs (from_local ∙ ap (λ (y : ℤ). pos 86400 +ℤ y) x.crossed) in
      omega arith

  pub beyond : local_date f ≡ last_date → 172800 ≤ c.second → Beyond f
  beyond e h = record { at_last = e; over = c.second - 172800; crossed = go (pos (local_second f) -ℤ away f) from_local }
    where
      go : (w : ℤ) → pos c.second ≡ pos 86400 +ℤ w → w ≡ pos (86400 + (c.second - 172800))
      go (pos n) e = let t : c.second ≡ 86400 + n = ap nat_abs e in ap pos (omega arith)
      go (negsuc n) e = absurd (omega (arith, below n c.second e))
