-- What the time in UTC is, for any data.
use mathlib.Core.Path.{◌≡◌, refl, sym, ap, ◌∙◌}
use mathlib.Core.Bool.{Bool, true, false, cond, true≢false}
use mathlib.Core.List.{List}
use mathlib.Core.Option.{Option, none, some, none-ne-some, some-injective}
use Prim.Native.Nat.{ℕ, ◌%◌, ◌≤◌, ◌<◌}
use native.Mathlib.Omega.{arith}
use borrow.Author.Tests.{eq-eqb, eqb-true, eqb-false, ne_eqb, ltb-true, ltb-false}
use lib.Dec.{eqb, ltb}
use lib.ListN.{length}
use lib.IntN.{nat_abs}
use Rattle.std.specs.Prelude.{Result, Ok, Err}
use Rattle.refusals.specs.declared.Refusal.{Refusal}
use Rattle.refusals.proofs.NumberLaws as numbers
use Rattle.octets.specs.Bytes.{Bytes}
use Rattle.ranges.specs.Ranges.{in_46}
use Rattle.kinds.specs.Kinds.{content}
use Rattle.kinds.proofs.OnlyLaws.{judged_46}
use Rattle.fields_46.specs.Fields.{fields_of}
use Rattle.fields_46.specs.declared.Time.{Time}
use Rattle.dates.specs.declared.Date.{Date}
use Rattle.dates.specs.declared.DateTime.{DateTime}
use Rattle.dates.specs.Dates.{Rolled, day_after, granted_to, forward_of, back_of}
use Rattle.dates.specs.UtcTime.{local_date, Answer, refuses, answer_of, on_day, from_fields, utc_of, falls_on}
use Rattle.dates.specs.Meaning.{day_number, instant, InUtc, Beyond, First}
use Rattle.dates.specs.Meaning.First.{by_length, by_range, by_year, accepted}
use Rattle.dates.proofs.DayLaws.{day_of}
use Rattle.dates.proofs.NumberLaws.{one_date}
use Rattle.dates.proofs.FieldLaws.{InRange, in_range_lem, year_fits}
use Rattle.dates.proofs.UtcLaws.{falls_before, falls_same, falls_after}
use Rattle.dates.proofs.CountLaws.{Counted, count, from_fields_is, on_number, on_none, on_some, time_of_lem, last_refused, over_is, beyond}
use Rattle.dates.proofs.Theorems as roll

-- ---- a number and a value are one answer of the code: its contract leaves nothing free

pub settled : (o p : Result DateTime Refusal) → answer_of o ≡ answer_of p → o ≡ p
settled (Ok t) (Ok u) e = ap Ok (some-injective t u (ap (λ (a : Answer). a.value) e))
settled (Ok t) (Err r) e = absurd (numbers.positive r (sym (ap (λ (a : Answer). a.number) e)))
settled (Err r) (Ok t) e = absurd (numbers.positive r (ap (λ (a : Answer). a.number) e))
settled (Err q) (Err r) e = ap Err (numbers.one_number q r (ap (λ (a : Answer). a.number) e))

-- ---- what is given is the time in UTC, and no other one is

accepted_data : (d : List ℕ) (t : DateTime) → (utc_of d).value ≡ some t → (content 0x46 d ≡ 0) × ((from_fields (fields_of d)).value ≡ some t)
unfolding utc_of
accepted_data d t = go (eqb (content 0x46 d) 0) refl
  where
    go : (b : Bool) → eqb (content 0x46 d) 0 ≡ b → (cond b (from_fields (fields_of d)) (refuses (content 0x46 d))).value ≡ some t
        → (content 0x46 d ≡ 0) × ((from_fields (fields_of d)).value ≡ some t)
    go true q e = (eqb-true (content 0x46 d) 0 q, e)
    go false q e = absurd (none-ne-some t e)

-- t as the call returns it, by its contract
pub in_utc : (d : List ℕ) (t : DateTime) → answer_of (Ok t) ≡ utc_of d → InUtc (fields_of d) t
in_utc d t e =
    let a = accepted_data d t (sym (ap (λ (x : Answer). x.value) e)) in
    let i = in_range_lem d a.0 in
    time_of_lem (fields_of d) i (count (fields_of d) i.zone_in) t a.1

pub no_other : (f : Time) (t u : DateTime) → InUtc f t → InUtc f u → t ≡ u
no_other f t u a b =
    let same : instant t.date t.second ≡ instant u.date u.second = ap nat_abs (a.balance ∙ sym b.balance) in
    let days : day_number t.date ≡ day_number u.date = omega (arith, a.second_lt, b.second_lt) in
    let s : t.second ≡ u.second = omega arith in
    let d = one_date t.date u.date (day_of t.date a.there) (day_of u.date b.there) days in
    λ k. record { second = s k; date = d k }

-- ---- the refusals: each exactly where its question is the first that says no

first_of : (d : List ℕ) (m n : ℕ) → m ≡ n → First d n → First d m
first_of d m n e x = rw e x

module _ (d : List ℕ) (bytes : Bytes d) (ten : length d ≡ 10) (ranges : in_46 d ≡ true) where
  abbrev time : Time
  time = fields_of d

  no_refusal : content 0x46 d ≡ 0
  no_refusal = judged_46 d ∙ (λ k. cond (eq-eqb (length d) 10 ten k) (cond (ranges k) 0 12) 11)

  in_order : InRange time
  in_order = in_range_lem d no_refusal

  seconds : Counted time
  seconds = count time in_order.zone_in

  fields_answer : utc_of d ≡ from_fields time
  unfolding utc_of
  fields_answer = ap (λ (b : Bool). cond b (from_fields time) (refuses (content 0x46 d))) (eq-eqb (content 0x46 d) 0 no_refusal)

  number_is : (r : Rolled) → r ≡ falls_on (local_date time) seconds.second → (utc_of d).number ≡ r.refusal
  number_is r e =
      ap (λ (a : Answer). a.number) (fields_answer ∙ from_fields_is time seconds)
      ∙ on_number (falls_on (local_date time) seconds.second) (seconds.second % 86400)
      ∙ ap (λ (x : Rolled). x.refusal) (sym e)

  not_beyond : seconds.second < 172800 → Beyond time → ⊥
  not_beyond h x = omega (arith, over_is time seconds x)

  back_granted : (back_of (local_date time)).refusal ≡ 0
  back_granted = go (eqb (back_of (local_date time)).refusal 0) refl
    where
      go : (b : Bool) → eqb (back_of (local_date time)).refusal 0 ≡ b → (back_of (local_date time)).refusal ≡ 0
      go true q = eqb-true (back_of (local_date time)).refusal 0 q
      go false q =
          let e = roll.only_first (local_date time) in_order.there (omega (arith, in_order.year_above)) (year_fits d bytes ten) (eqb-false (back_of (local_date time)).refusal 0 q) in
          let y : time.year ≡ 1999 = ap (λ (t : Date). t.year) e in
          absurd (omega (arith, in_order.year_above))

  by_fields : First d (utc_of d).number
  by_fields = go (ltb seconds.second 86400) (ltb seconds.second 172800) refl refl
    where
      after : 172800 ≤ seconds.second → (b : Bool) → eqb (forward_of (local_date time)).refusal 0 ≡ b → First d (forward_of (local_date time)).refusal
      after h true q =
          let z = eqb-true (forward_of (local_date time)).refusal 0 q in
          let last : Beyond time → ⊥ = λ x. omega (arith, z, ap (λ (t : Date). (forward_of t).refusal) x.at_last, last_refused) in
          first_of d (forward_of (local_date time)).refusal 0 z (accepted ten ranges last)
      after h false q =
          let z = eqb-false (forward_of (local_date time)).refusal 0 q in
          let e = roll.only_last (local_date time) in_order.there (omega (arith, in_order.year_above)) (year_fits d bytes ten) z in
          first_of d (forward_of (local_date time)).refusal 18 (ap (λ (r : Rolled). r.refusal) (roll.as_before (local_date time) (day_after (local_date time)) z))
          (by_year ten ranges (beyond time seconds e h))

      go : (a b : Bool) → ltb seconds.second 86400 ≡ a → ltb seconds.second 172800 ≡ b → First d (utc_of d).number
      go true b p o =
          let h = ltb-true seconds.second 86400 p in
          first_of d (utc_of d).number 0 (number_is (back_of (local_date time)) (falls_before (local_date time) seconds.second h) ∙ back_granted)
          (accepted ten ranges (not_beyond (omega arith)))
      go false true p o =
          let h = ltb-true seconds.second 172800 o in
          first_of d (utc_of d).number 0 (number_is (granted_to (local_date time)) (falls_same (local_date time) seconds.second (ltb-false seconds.second 86400 p) h))
          (accepted ten ranges (not_beyond h))
      go false false p o =
          let h = ltb-false seconds.second 172800 o in
          first_of d (utc_of d).number (forward_of (local_date time)).refusal (number_is (forward_of (local_date time)) (falls_after (local_date time) seconds.second h))
          (after h (eqb (forward_of (local_date time)).refusal 0) refl)

refused_number : (d : List ℕ) (n : ℕ) → content 0x46 d ≡ n → (n ≡ 0 → ⊥) → (utc_of d).number ≡ n
unfolding utc_of
refused_number d n e h =
    ap (λ (b : Bool). (cond b (from_fields (fields_of d)) (refuses (content 0x46 d))).number) (ne_eqb (content 0x46 d) 0 (λ z. h (sym e ∙ z))) ∙ e

-- the number of an answer is that of the first question that says no
pub first : (d : List ℕ) → Bytes d → First d (utc_of d).number
first d bytes = go (eqb (length d) 10) (in_46 d) refl refl
  where
    go : (t u : Bool) → eqb (length d) 10 ≡ t → in_46 d ≡ u → First d (utc_of d).number
    go true true p q = by_fields d bytes (eqb-true (length d) 10 p) q
    go true false p q =
        first_of d (utc_of d).number 12 (refused_number d 12 (judged_46 d ∙ (λ k. cond (p k) (cond (q k) 0 12) 11)) (λ z. omega (arith, z)))
        (by_range (eqb-true (length d) 10 p) q)
    go false u p q =
        first_of d (utc_of d).number 11 (refused_number d 11 (judged_46 d ∙ ap (λ (b : Bool). cond b (cond (in_46 d) 0 12) 11) p) (λ z. omega (arith, z)))
        (by_length (eqb-false (length d) 10 p))

-- and no other number is
differ : (t : Bool) → t ≡ true → t ≡ false → ⊥
differ t p q = true≢false (sym p ∙ q)

pub one_number : (d : List ℕ) (m n : ℕ) → First d m → First d n → m ≡ n
one_number d _ _ (by_length x) (by_length y) = refl
one_number d _ _ (by_length x) (by_range l r) = absurd (x l)
one_number d _ _ (by_length x) (by_year l r b) = absurd (x l)
one_number d _ _ (by_length x) (accepted l r b) = absurd (x l)
one_number d _ _ (by_range l r) (by_length y) = absurd (y l)
one_number d _ _ (by_range l r) (by_range k s) = refl
one_number d _ _ (by_range l r) (by_year k s b) = absurd (differ (in_46 d) s r)
one_number d _ _ (by_range l r) (accepted k s b) = absurd (differ (in_46 d) s r)
one_number d _ _ (by_year l r b) (by_length y) = absurd (y l)
one_number d _ _ (by_year l r b) (by_range k s) = absurd (differ (in_46 d) r s)
one_number d _ _ (by_year l r b) (by_year k s a) = refl
one_number d _ _ (by_year l r b) (accepted k s a) = absurd (a b)
one_number d _ _ (accepted l r b) (by_length y) = absurd (y l)
one_number d _ _ (accepted l r b) (by_range k s) = absurd (differ (in_46 d) r s)
one_number d _ _ (accepted l r b) (by_year k s a) = absurd (b a)
one_number d _ _ (accepted l r b) (accepted k s a) = refl

pub exactly : (d : List ℕ) → Bytes d → (n : ℕ) → First d n → (utc_of d).number ≡ n
exactly d bytes n x = one_number d (utc_of d).number n (first d bytes) x

-- ---- where none says no a time is given; where one does there is none

by_day : (d : List ℕ) → content 0x46 d ≡ 0 → (r : Rolled) × (s : ℕ) × (utc_of d ≡ on_day r s)
unfolding utc_of
by_day d z =
    let f = fields_of d in
    let c = count f (in_range_lem d z).zone_in in
    (falls_on (local_date f) c.second, c.second % 86400, rw z (from_fields_is f c))

by_content : (d : List ℕ) → (content 0x46 d ≡ 0 → ⊥) → utc_of d ≡ refuses (content 0x46 d)
unfolding utc_of
by_content d h = ap (λ (b : Bool). cond b (from_fields (fields_of d)) (refuses (content 0x46 d))) (ne_eqb (content 0x46 d) 0 h)

abbrev number : Answer → ℕ
number a = a.number

abbrev value : Answer → Option DateTime
value a = a.value

pub given : (d : List ℕ) → (utc_of d).number ≡ 0 → (t : DateTime) × ((utc_of d).value ≡ some t)
given d z = go (eqb (content 0x46 d) 0) refl
  where
    go : (b : Bool) → eqb (content 0x46 d) 0 ≡ b → (t : DateTime) × ((utc_of d).value ≡ some t)
    go true q =
        let a = by_day d (eqb-true (content 0x46 d) 0 q) in
        let r : a.0.refusal ≡ 0 = sym (on_number a.0 a.1) ∙ sym (ap number a.2) ∙ z in
        (record { second = a.1; date = a.0.date }, ap value a.2 ∙ on_some a.0 a.1 r)
    go false q = let h = eqb-false (content 0x46 d) 0 q in absurd (h (sym (ap number (by_content d h)) ∙ z))

pub no_time : (d : List ℕ) → ((utc_of d).number ≡ 0 → ⊥) → (utc_of d).value ≡ none
no_time d h = go (eqb (content 0x46 d) 0) refl
  where
    go : (b : Bool) → eqb (content 0x46 d) 0 ≡ b → (utc_of d).value ≡ none
    go true q =
        let a = by_day d (eqb-true (content 0x46 d) 0 q) in
        ap value a.2 ∙ on_none a.0 a.1 (λ z. h (ap number a.2 ∙ on_number a.0 a.1 ∙ z))
    go false q = ap value (by_content d (eqb-false (content 0x46 d) 0 q))
