-- Every byte taken is accepted, refused, outside or pending: of one row of the table, and of a list of bytes.
use mathlib.Core.Bool.{Bool, true, false, cond}
use mathlib.Core.List.{List, [], ◌∷◌, ◌++◌}
use mathlib.Core.Path.{◌≡◌, refl, ap}
use Prim.Native.Nat.{ℕ, ◌+◌}
use native.Mathlib.Omega.{arith}
use lib.Dec.{eqb, ltb}
use lib.ListN.{length}
use Rattle.stuffing.specs.Stuffing.{stuffed}
use Rattle.stuffing.proofs.StuffingLaws.{stuffed_nil}
use Rattle.line.specs.Frame.{Mode, Class, class_of, judge}
use Rattle.line.specs.Frame.Mode.{plain, summed}
use Rattle.line.specs.Frame.Class.{dle, etx, sum, other}
use Rattle.line.specs.Table.{State, Step, capacity, pending, go, refuse, verdict, ends, join, row, next, after, events, skipped, total, accepts, refuses}
use Rattle.line.specs.Table.State.{W, WD, F, FD, C0, C1, E, ED}
use Rattle.line.proofs.Classes.{length_snoc}

pub cond_both : (P : Step → Type 0) (t : Bool) (x y : Step) → P x → P y → P (cond t x y)
cond_both P true x y p q = p
cond_both P false x y p q = q

-- a byte adds 1 to the pending bytes or closes: closed, outside and the new pending are the old pending and 1
abbrev pub Balanced : State → Step → Type 0
Balanced s t = pending s + 1 ≡ pending t.to + accepts t.event + refuses t.event + t.outside

concatenated : (s : State) (id : ℕ) (d : List ℕ) (b : ℕ) → pending s + 1 ≡ length (stuffed (d ++ (b ∷ []))) + 2
    → Balanced s (join id d b (pending s + 1))
concatenated s id d b p =
    cond_both (Balanced s) (ltb (length d) capacity) (go (F id (d ++ (b ∷ [])))) (refuse 4 id (pending s + 1)) (omega arith)
    (omega arith)

ended : (s : State) (v id : ℕ) (d : List ℕ) → Balanced s (ends v id d (pending s + 1))
ended s v id d = by_verdict (eqb v 0)
  where
    by_verdict : (t : Bool) → Balanced s (record { to = W; event = verdict t v id d (pending s + 1); outside = 0 })
    by_verdict true = omega arith
    by_verdict false = omega arith

no_data : length (stuffed []) ≡ 0
no_data = ap length stuffed_nil

pub balanced : (m : Mode) (s : State) (b : ℕ) (k : Class) → class_of b ≡ k → Balanced s (row m s k b)
balanced m W b dle e = refl
balanced m W b etx e = refl
balanced m W b sum e = refl
balanced m W b other e = refl
balanced m WD b dle e = refl
balanced m WD b etx e = refl
balanced m WD b sum e = refl
balanced m WD b other e = omega (arith, no_data)
balanced m (F id d) b dle e = omega arith
balanced m (F id d) b etx e = concatenated (F id d) id d b (omega (arith, length_snoc d b etx e))
balanced m (F id d) b sum e = concatenated (F id d) id d b (omega (arith, length_snoc d b sum e))
balanced m (F id d) b other e = concatenated (F id d) id d b (omega (arith, length_snoc d b other e))
balanced m (FD id d) b dle e = concatenated (FD id d) id d b (omega (arith, length_snoc d b dle e))
balanced plain (FD id d) b etx e = ended (FD id d) (judge plain id d 0 0) id d
balanced summed (FD id d) b etx e = omega arith
balanced plain (FD id d) b sum e = omega arith
balanced summed (FD id d) b sum e = omega arith
balanced m (FD id d) b other e = omega (arith, no_data)
balanced m (C0 id d) b k e = omega arith
balanced m (C1 id d c1) b k e = omega arith
balanced m (E id d c1 c2) b dle e = omega arith
balanced m (E id d c1 c2) b etx e = omega arith
balanced m (E id d c1 c2) b sum e = omega arith
balanced m (E id d c1 c2) b other e = omega arith
balanced m (ED id d c1 c2) b dle e = omega arith
balanced m (ED id d c1 c2) b etx e = ended (ED id d c1 c2) (judge summed id d c1 c2) id d
balanced m (ED id d c1 c2) b sum e = omega arith
balanced m (ED id d c1 c2) b other e = omega (arith, no_data)

pub conserved : (m : Mode) (s : State) (bs : List ℕ)
    → pending s + length bs
    ≡ total accepts (events m s bs) + total refuses (events m s bs) + skipped m s bs + pending (after m s bs)
conserved m s [] = omega arith
conserved m s (b ∷ bs) = omega (arith, balanced m s b (class_of b) refl, conserved m (next m s b).to bs)
