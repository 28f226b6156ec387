-- The number by which fields are refused, question by question, and the answer that it makes.
use mathlib.Core.Path.{◌≡◌, refl}
use mathlib.Core.Bool.{Bool, true, false, not, cond, ◌&&◌}
use Prim.Native.Nat.{ℕ}
use native.Mathlib.Omega.{arith}
use borrow.Author.Tests.{eq-eqb, ne_eqb}
use lib.Dec.{eqb}
use lib.Ieee.{binary64, of_bits}
use lib.Ieee.Scale.{finite}
use Rattle.fields_4b.specs.declared.Scales.{Scales}
use Rattle.utc.specs.Offset.{in_time, refusal_of, seconds_of, gives, from_fields}
use Rattle.utc.specs.Meaning.{Finite}

module _ (f : Scales) (second week : ℕ) where
  abbrev pub timely : Bool
  timely = in_time second f.tot week f.wnt

  abbrev pub numeric : Bool
  numeric = finite (of_bits binary64 f.a0) && finite (of_bits binary64 f.a1)

  pub by_14 : (f.gps_reliable ≡ 255 → ⊥) → refusal_of f second week ≡ 14
  unfolding refusal_of
  by_14 h = rw (ne_eqb f.gps_reliable 255 h)

  pub by_15 : f.gps_reliable ≡ 255 → timely ≡ false → refusal_of f second week ≡ 15
  unfolding refusal_of
  by_15 g h = rw (eq-eqb f.gps_reliable 255 g, h)

  pub by_16 : f.gps_reliable ≡ 255 → timely ≡ true → numeric ≡ false → refusal_of f second week ≡ 16
  unfolding refusal_of
  by_16 g t h = rw (eq-eqb f.gps_reliable 255 g, t, h)

  pub by_none : f.gps_reliable ≡ 255 → timely ≡ true → numeric ≡ true → refusal_of f second week ≡ 0
  unfolding refusal_of
  by_none g t h = rw (eq-eqb f.gps_reliable 255 g, t, h)

  -- fields that nothing refuses
  pub passed : refusal_of f second week ≡ 0 → (timely ≡ true) × Finite f
  unfolding refusal_of
  passed = go (eqb f.gps_reliable 255) timely (finite (of_bits binary64 f.a0)) (finite (of_bits binary64 f.a1))
    where
      go : (a b x y : Bool) → ◌≡◌ {A = ℕ} (cond (not a) 14 (cond (not b) 15 (cond (not (x && y)) 16 0))) 0 → (b ≡ true) × ((x ≡ true) × (y ≡ true))
      go true true true true z = (refl, (refl, refl))
      go true true true false z = absurd (omega arith)
      go true true false y z = absurd (omega arith)
      go true false x y z = absurd (omega arith)
      go false b x y z = absurd (omega arith)

  pub given : refusal_of f second week ≡ 0 → gives (seconds_of f second week) ≡ from_fields f second week
  unfolding from_fields
  given e = rw e
