-- Four bytes that stuffing leaves as they are.
use mathlib.Core.Bool.{true, and-eq-true_iff}
use mathlib.Core.List.{List}
use mathlib.Core.Path.{◌≡◌}
use Prim.Native.Nat.{ℕ, ◌+◌, ◌≤◌}
use borrow.Author.Tests.{leb-true, not-true, eqb-false}
use lib.Dec.{eqb, leb}
use lib.ListN.{length, get_or}
use Rattle.stuffing.specs.Stuffing.{DLE, other, four_plain}

pub record Plain (s : List ℕ) (i : ℕ) : Type 0 where
  pub there : i + 4 ≤ length s
  pub first : get_or s i 0 ≡ DLE → ⊥
  pub second : get_or s (i + 1) 0 ≡ DLE → ⊥
  pub third : get_or s (i + 2) 0 ≡ DLE → ⊥
  pub fourth : get_or s (i + 3) 0 ≡ DLE → ⊥

differs : (b : ℕ) → other b ≡ true → b ≡ DLE → ⊥
differs b e = eqb-false b DLE (not-true (eqb b DLE) e)

pub plain_of : (s : List ℕ) (i : ℕ) → four_plain s i ≡ true → Plain s i
unfolding four_plain
plain_of s i e =
    let o = (and-eq-true_iff (leb (i + 4) (length s)) _).0 e in
    let p = (and-eq-true_iff _ (other (get_or s (i + 3) 0))).0 o.1 in
    let q = (and-eq-true_iff _ (other (get_or s (i + 2) 0))).0 p.0 in
    let r = (and-eq-true_iff (other (get_or s i 0)) (other (get_or s (i + 1) 0))).0 q.0 in
    record {
      there = leb-true (i + 4) (length s) o.0;
      first = differs (get_or s i 0) r.0;
      second = differs (get_or s (i + 1) 0) r.1;
      third = differs (get_or s (i + 2) 0) q.1;
      fourth = differs (get_or s (i + 3) 0) p.1;
    }
