-- Laws of satellites: system and number in linear form, and the place among the 56.
use mathlib.Core.Path.{◌≡◌, refl, ap}
use mathlib.Core.Bool.{Bool, true, false, cond, ◌&&◌, ◌||◌, and-eq-true_iff}
use Prim.Native.Nat.{ℕ, ◌+◌, ◌*◌, ◌/◌, ◌%◌, ◌≤◌, ◌<◌}
use native.Mathlib.Omega.{arith}
use borrow.Author.Tests.{eqb-true, eqb-false, leb-true, le-leb}
use lib.Dec.{eqb, leb}
use Rattle.satellites.specs.Satellites.{between, satellite, place_of}

-- system 1 with 1 to 32 or system 2 with 1 to 24, in linear form
pub record Satellite (s n : ℕ) : Type 0 where
  pub low : 1 ≤ s
  pub high : s ≤ 2
  pub first : 1 ≤ n
  pub last : 8 * s + n ≤ 40

pub satellite_is : (s n : ℕ) → satellite s n ≡ true → Satellite s n
satellite_is s n e = go (eqb s 1 && between 1 32 n) refl e
  where
    in_system : (k m : ℕ) → eqb s k && between 1 m n ≡ true → (s ≡ k) × (1 ≤ n) × (n ≤ m)
    in_system k m h =
        let b = (and-eq-true_iff (eqb s k) (between 1 m n)).0 h in
        let r = (and-eq-true_iff (leb 1 n) (leb n m)).0 b.1 in
        (eqb-true s k b.0, leb-true 1 n r.0, leb-true n m r.1)

    go : (t : Bool) → eqb s 1 && between 1 32 n ≡ t → t || eqb s 2 && between 1 24 n ≡ true → Satellite s n
    go true q h = let f = in_system 1 32 q in record { low = omega arith; high = omega arith; first = omega arith; last = omega arith }
    go false q h = let f = in_system 2 24 h in record { low = omega arith; high = omega arith; first = omega arith; last = omega arith }

-- system by system
pub by_system : (P : ℕ → ℕ → Type 0) → ((n : ℕ) → 1 ≤ n → n ≤ 32 → P 1 n) → ((n : ℕ) → 1 ≤ n → n ≤ 24 → P 2 n)
    → (s n : ℕ) → Satellite s n → P s n
by_system P one two s n p = go (eqb s 1) refl
  where
    go : (t : Bool) → eqb s 1 ≡ t → P s n
    go true e = let x = eqb-true s 1 e in rw x (one n p.first (omega arith))
    go false e = let y = eqb-false s 1 e in let x : s ≡ 2 = omega arith in rw x (two n p.first (omega arith))

pub satellite_of : (s n : ℕ) → Satellite s n → satellite s n ≡ true
satellite_of = by_system (λ s n. satellite s n ≡ true)
    (λ n l h. rw (le-leb 1 n l, le-leb n 32 h))
    (λ n l h. rw (le-leb 1 n l, le-leb n 24 h))

-- numbers 1 to m of a system that has so many
pub numbered : (s m : ℕ) → 1 ≤ s → s ≤ 2 → 8 * s + m ≤ 40 → (n : ℕ) → 1 ≤ n → n ≤ m → Satellite s n
numbered s m low high most n l h = record { low = low; high = high; first = l; last = omega arith }

pub place_lt : (s n : ℕ) → Satellite s n → place_of s n < 56
place_lt s n p = omega arith

-- two at one place are one
pub same_satellite : (a b s n : ℕ) → Satellite a b → Satellite s n → place_of a b ≡ place_of s n → (a ≡ s) × (b ≡ n)
same_satellite a b s n p q e = (omega arith, omega arith)

-- what `place` gives of a satellite
pub place_there : (s n : ℕ) → satellite s n ≡ true → cond (satellite s n) (place_of s n) 56 ≡ place_of s n
place_there s n e = ap (λ (t : Bool). cond t (place_of s n) 56) e

-- the satellite of a place
pub record AtPlace (p : ℕ) : Type 0 where
  pub system : ℕ
  pub number : ℕ
  pub there : Satellite system number
  pub its_place : place_of system number ≡ p

pub at_place : (p : ℕ) → p < 56 → AtPlace p
at_place p l =
    record {
      system = p / 32 + 1;
      number = p % 32 + 1;
      there = record { low = omega arith; high = omega arith; first = omega arith; last = omega arith };
      its_place = omega arith;
    }
