-- Where question 15 refuses nothing, dt is at most 77,414,399 either way, and each step to it fits 32 bits.
use mathlib.Core.Path.{◌≡◌, refl, sym}
use mathlib.Core.Bool.{Bool, true, false, ◌&&◌, true≢false}
use Prim.Native.Nat.{ℕ, ◌+◌, ◌-◌, ◌≤◌}
use native.Mathlib.Omega.{arith}
use borrow.Author.Tests.{leb-true, leb-false, le-leb, lt-leb}
use lib.Dec.{leb}
use lib.IntN.{pos, nat_abs, ◌-ℤ◌, ◌*ℤ◌}
use Rattle.utc.specs.Offset.{elapsed, in_time}
use Rattle.utc.specs.Meaning.{Near}
use Rattle.utc.proofs.SizeLaws.{minus_size, plus_size, times_size}

-- a difference of at most 127, either way
pub apart_near : (w n : ℕ) → leb (w - n + (n - w)) 127 ≡ (leb w (n + 127) && leb n (w + 127))
apart_near w n = go (leb w (n + 127)) (leb n (w + 127)) refl refl
  where
    go : (a b : Bool) → leb w (n + 127) ≡ a → leb n (w + 127) ≡ b → leb (w - n + (n - w)) 127 ≡ (a && b)
    go true true p q = le-leb (w - n + (n - w)) 127 (omega (arith, leb-true w (n + 127) p, leb-true n (w + 127) q))
    go true false p q = lt-leb (w - n + (n - w)) 127 (omega (arith, leb-false n (w + 127) q))
    go false b p q = lt-leb (w - n + (n - w)) 127 (omega (arith, leb-false w (n + 127) p))

four : (a b c d : Bool) → a && b && c && d ≡ true → (a ≡ true) × (b ≡ true) × (c ≡ true) × (d ≡ true)
four true true true true e = (refl, refl, refl, refl)
four true true true false e = absurd (true≢false (sym e))
four true true false d e = absurd (true≢false (sym e))
four true false c d e = absurd (true≢false (sym e))
four false b c d e = absurd (true≢false (sym e))

pub near : (second tot week wnt : ℕ) → in_time second tot week wnt ≡ true → Near second tot week wnt
unfolding in_time
near second tot week wnt h =
    let e = four (leb second 604799) (leb tot 604799) (leb week (wnt + 127)) (leb wnt (week + 127)) h in
    record {
      second_le = leb-true second 604799 e.0;
      tot_le = leb-true tot 604799 e.1;
      week_le = leb-true week (wnt + 127) e.2;
      wnt_le = leb-true wnt (week + 127) e.3;
    }

pub within : (second tot week wnt : ℕ) → Near second tot week wnt → in_time second tot week wnt ≡ true
unfolding in_time
within second tot week wnt n =
    rw (le-leb second 604799 n.second_le, le-leb tot 604799 n.tot_le, le-leb week (wnt + 127) n.week_le, le-leb wnt (week + 127) n.wnt_le)

module _ (second tot week wnt : ℕ) (n : Near second tot week wnt) where
  pub seconds_size : nat_abs (pos second -ℤ pos tot) ≤ 604799
  seconds_size = minus_size second tot 604799 (omega (arith, n.second_le)) (omega (arith, n.tot_le))

  pub weeks_size : nat_abs (pos week -ℤ pos wnt) ≤ 127
  weeks_size = minus_size week wnt 127 n.week_le n.wnt_le

  pub product_size : nat_abs (pos 604800 *ℤ (pos week -ℤ pos wnt)) ≤ 76809600
  product_size = omega (arith, times_size (pos 604800) (pos week -ℤ pos wnt), weeks_size)

  pub elapsed_size : nat_abs (elapsed second tot week wnt) ≤ 77414399
  elapsed_size = omega (arith, plus_size (pos second -ℤ pos tot) (pos 604800 *ℤ (pos week -ℤ pos wnt)), seconds_size, product_size)
