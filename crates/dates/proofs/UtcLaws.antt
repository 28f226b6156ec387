-- A second that is counted from the beginning of the day before, and the same counted from the local day.
use mathlib.Core.Path.{◌≡◌, refl, sym, ap, ◌∙◌}
use mathlib.Core.Bool.{Bool, true, false, cond}
use mathlib.Core.List.{List}
use Prim.Native.Nat.{ℕ, suc, ◌+◌, ◌-◌, ◌%◌, ◌≤◌, ◌<◌}
use native.Mathlib.Omega.{arith}
use borrow.Author.Tests.{eq-eqb, ne_eqb, lt-ltb, le-ltb, ltb-true, ltb-false}
use lib.Dec.{eqb, ltb}
use lib.IntN.{ℤ, pos, negsuc, neg_ℤ, nat_abs, pos-ne-negsuc, ◌+ℤ◌, ◌-ℤ◌, +ℤ_assoc}
use Rattle.std.specs.Prelude.{Result, Ok, Err}
use Rattle.kinds.specs.Kinds.{content}
use Rattle.fields_46.specs.Fields.{fields_of, decoded_of}
use Rattle.fields_46.specs.declared.Time.{Time}
use Rattle.dates.specs.declared.Date.{Date}
use Rattle.dates.specs.Dates.{Rolled, granted_to, forward_of, back_of}
use Rattle.dates.specs.UtcTime.{zone_seconds, local_date, local_second, Answer, gives, refuses, on_day, utc_at, from_fields, utc_of, falls_on}

-- ---- a second of the day before

pub below : (n t : ℕ) → pos t ≡ pos 86400 +ℤ negsuc n → (suc n ≤ 86400) × (t ≡ 86400 - suc n)
below n t e = go (ltb 86400 (suc n)) refl e
  where
    go : (b : Bool) → ltb 86400 (suc n) ≡ b → pos t ≡ cond b (negsuc (suc n - suc 86400)) (pos (86400 - suc n)) → (suc n ≤ 86400) × (t ≡ 86400 - suc n)
    go true q p = absurd (pos-ne-negsuc t (suc n - suc 86400) p)
    go false q p = (ltb-false 86400 (suc n) q, ap nat_abs p)

-- ---- the day and the second of it

module _ (d : Date) (t : ℕ) where
  pub falls_before : t < 86400 → back_of d ≡ falls_on d t
  unfolding falls_on
  falls_before h = rw (lt-ltb t 86400 h)

  pub falls_same : 86400 ≤ t → t < 172800 → granted_to d ≡ falls_on d t
  unfolding falls_on
  falls_same h l = rw (le-ltb t 86400 h, lt-ltb t 172800 l)

  pub falls_after : 172800 ≤ t → forward_of d ≡ falls_on d t
  unfolding falls_on
  falls_after h = rw (le-ltb t 86400 (omega arith), le-ltb t 172800 h)

module _ (d : Date) where
  abbrev split : ℕ → Answer
  split t = on_day (falls_on d t) (t % 86400)

  on : (t s : ℕ) (r : Rolled) → r ≡ falls_on d t → t % 86400 ≡ s → split t ≡ on_day r s
  on t s r e m = λ k. on_day (sym e k) (m k)

  by_zero : (t : ℕ) (w : ℤ) → t < 259200 → pos t ≡ pos 86400 +ℤ w → split t ≡ utc_at d w
  unfolding utc_at
  by_zero t (negsuc n) l e =
      let b = below n t e in
      on t (86400 - suc n) (back_of d) (falls_before d t (omega (arith, b))) (omega (arith, b))
  by_zero t (pos n) l e = go (ltb n 86400) refl
    where
      go : (b : Bool) → ltb n 86400 ≡ b → split t ≡ cond b (gives d n) (on_day (forward_of d) (n - 86400))
      go true q =
          let v : t ≡ 86400 + n = ap nat_abs e in
          let h = ltb-true n 86400 q in
          on t n (granted_to d) (falls_same d t (omega arith) (omega arith)) (omega arith)
      go false q =
          let v : t ≡ 86400 + n = ap nat_abs e in
          let h = ltb-false n 86400 q in
          on t (n - 86400) (forward_of d) (falls_after d t (omega arith)) (omega arith)

  -- s less z, and the same a day later
  pub counted : (t s : ℕ) (z : ℤ) → t < 259200 → pos t ≡ pos (86400 + s) -ℤ z → split t ≡ utc_at d (pos s -ℤ z)
  counted t s z l e = by_zero t (pos s -ℤ z) l (e ∙ +ℤ_assoc (pos 86400) (pos s) (neg_ℤ z))

-- ---- what was decoded, answered

abbrev pub answered : Result Time ℕ → Answer
answered (Ok f) = from_fields f
answered (Err v) = refuses v

pub answered_is : (d : List ℕ) → answered (decoded_of d) ≡ utc_of d
unfolding utc_of
answered_is d = go (eqb (content 0x46 d) 0)
  where
    go : (t : Bool) → answered (cond t (Ok (fields_of d)) (Err (content 0x46 d)))
        ≡ cond t (from_fields (fields_of d)) (refuses (content 0x46 d))
    go true = refl
    go false = refl

-- ---- what the code answers, by the day that it rolled to

module _ (f : Time) (t : ℕ) (r : Rolled) (l : t < 259200) (e : pos t ≡ pos (86400 + local_second f) -ℤ zone_seconds f.hours f.minutes)
    (q : r ≡ falls_on (local_date f) t) where
  whole : on_day r (t % 86400) ≡ from_fields f
  unfolding from_fields
  whole = ap (λ (x : Rolled). on_day x (t % 86400)) q ∙ counted (local_date f) t (local_second f) (zone_seconds f.hours f.minutes) l e

  pub refused : (r.refusal ≡ 0 → ⊥) → refuses r.refusal ≡ from_fields f
  refused h = ap (λ (b : Bool). cond b (gives r.date (t % 86400)) (refuses r.refusal)) (sym (ne_eqb r.refusal 0 h)) ∙ whole

  pub given : r.refusal ≡ 0 → gives r.date (t % 86400) ≡ from_fields f
  given h = ap (λ (b : Bool). cond b (gives r.date (t % 86400)) (refuses r.refusal)) (sym (eq-eqb r.refusal 0 h)) ∙ whole
