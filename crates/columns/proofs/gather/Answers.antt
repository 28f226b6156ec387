-- `gather` meets its contract. The loop's invariant: the first i bytes are there.
use Rattle.std.proofs.Common.{sym, ◌∙◌, ◌+◌, ◌*◌, arith}
use Rattle.octets.specs.Bytes.{byte}
use Rattle.octets.proofs.PlacingLaws.{placed_nil}
use Rattle.encoding.specs.Entries.{firsts}
use Rattle.columns.proofs.ColumnLaws.{gather_next, gather_done}
use Rattle.columns.proofs.gather.Goals as goal

pub loop-i-init : goal.loop-i-init
unfolding firsts
loop-i-init c = sym (placed_nil _ _)

pub loop-i-preserved : goal.loop-i-preserved
loop-i-preserved c =
    let a = c.args in
    let i = c.loop-i.i in
    gather_next (λ k. byte a.src.now (a.from + a.step * k)) a.column.now 0 i i (omega arith) c.loop-i-test.true _ c.loop-i.invariant

pub returns : goal.returns
returns c =
    let a = c.args in
    c.loop-i.invariant ∙ gather_done (λ k. byte a.src.now (a.from + a.step * k)) a.column.now c.loop-i.i (omega (arith, c.loop-i-test.false, c.loop-i.auto.i-end))
