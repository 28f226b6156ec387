-- `reader::in_e` meets its contract: the table in E.
use Rattle.std.proofs.Common.{◌≡◌, refl, ℕ, List, ◌+◌, arith}
use Rattle.line.specs.Frame.{Mode, Class, mode_of, class_of}
use Rattle.line.specs.Frame.Class.{dle, etx, sum, other}
use Rattle.line.specs.Table.{pending, next, refuse}
use Rattle.line.specs.Table.State.{E}
use Rattle.line.proofs.Classes.{dle_is}
use Rattle.line.proofs.Reading.{is}
use Rattle.record.specs.View.{place_of}
use Rattle.record.proofs.Data.{is_dle}
use Rattle.refusals.specs.declared.Refusal.TheVariants.{EndMissing}
use Rattle.reader.proofs.Rows.{steps_went, steps_refused}
use Rattle.reader.proofs.in_e.Goals as goal

-- a byte that is no DLE, in E
e_other : (m : Mode) (id : ℕ) (d : List ℕ) (c1 c2 b : ℕ) → (b ≡ 16 → ⊥)
    → next m (E id d c1 c2) b ≡ refuse 8 id (pending (E id d c1 c2) + 1)
e_other m id d c1 c2 b n = by (class_of b) refl
  where
    by : (k : Class) → class_of b ≡ k → next m (E id d c1 c2) b ≡ refuse 8 id (pending (E id d c1 c2) + 1)
    by dle e = absurd (n (dle_is b e))
    by etx e = is m (E id d c1 c2) b e refl
    by sum e = is m (E id d c1 c2) b e refl
    by other e = is m (E id d c1 c2) b e refl

pub returns-then-b-eq-DLE : goal.returns-then-b-eq-DLE
unfolding place_of
returns-then-b-eq-DLE c k a h = rw c.go.ensures (steps_went c.requires.taken (is_dle c.args.b c.if-b-eq-DLE.true) refl refl (omega arith) h.pends)

pub returns-else-b-eq-DLE : goal.returns-else-b-eq-DLE
unfolding place_of
returns-else-b-eq-DLE c k a h =
    rw c.shut.ensures (steps_refused c.requires.taken EndMissing refl (e_other (mode_of k) _ _ _ _ _ c.if-b-eq-DLE.false) (omega arith) h.pends)
