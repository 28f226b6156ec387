-- `put_system` meets its contract. The loop's invariant: the triples of the satellites passed stand in the buffer.
use mathlib.Core.Path.{◌≡◌, sym, ap, ◌∙◌}
use Prim.Native.Nat.{ℕ, ◌+◌, ◌-◌}
use native.Mathlib.Omega.{arith}
use Rattle.octets.specs.Placing.{placed}
use Rattle.octets.proofs.PlacingLaws.{placed_nil}
use Rattle.in_use.specs.InUse.{system_data}
use Rattle.in_use.proofs.DataLaws.{system_none, system_more}
use Rattle.in_use.proofs.put_system.Goals as goal
use Rattle.in_use.proofs.put_system.Goals.{After-put}

-- the satellites up to this one
placed_to : (c : After-put) → c.put.new.buf ≡ placed c.args.all.now c.args.at (system_data c.args.word c.args.system c.loop-number.number)
placed_to c =
    let a = c.args in
    c.put.ensures.1
    ∙ system_more a.word a.system a.all.now c.loop-number.number a.at _ (omega arith) (omega arith) (omega arith) _ c.loop-number.invariant.1 _ c.triple-t.ensures

pub loop-number-init : goal.loop-number-init
loop-number-init c =
    let a = c.args in
    (omega arith, sym (ap (placed a.all.now a.at) (system_none a.word a.system) ∙ placed_nil a.all.now a.at))

pub loop-number-preserved : goal.loop-number-preserved
loop-number-preserved c =
    let a = c.args in
    let n : c.loop-number.number ≡ c.loop-number.number + 1 - 1 = omega arith in
    (omega arith, placed_to (goal.at.loop-number-preserved c).After-put ∙ ap (λ (k : ℕ). placed a.all.now a.at (system_data a.word a.system k)) n)

pub returns-2 : goal.returns-2
returns-2 c =
    let a = c.args in
    let n : c.loop-number.number ≡ a.most = omega arith in
    placed_to (goal.at.returns-2 c).After-put ∙ ap (λ (k : ℕ). placed a.all.now a.at (system_data a.word a.system k)) n
