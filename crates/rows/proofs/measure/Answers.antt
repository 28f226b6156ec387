-- `measure` meets its contract. The loop's invariant: the answer is that of the widths still to go and the room left.
use mathlib.Core.Path.{◌≡◌, ap, ◌∙◌}
use Rattle.std.specs.Prelude.{Some}
use Prim.Native.Nat.{◌-◌, ◌≤◌, ◌<◌}
use native.Mathlib.Omega.{arith}
use borrow.Author.Tests.{le-leb, lt-leb}
use lib.ListN.{length}
use Rattle.rows.specs.Layout.{packs, total}
use Rattle.rows.proofs.RowLaws.{within_wide, within_over, within_next, within_none, total_next}
use Rattle.rows.proofs.measure.Goals as goal
use Rattle.rows.proofs.measure.Goals.{Else-count-widths}

-- past the test there is a word for each width
enough : (c : Else-count-widths) → length c.args.widths.now ≤ c.args.count
enough c = omega (arith, c.if-count-widths.false)

pub returns-then-count-widths : goal.returns-then-count-widths
unfolding packs
returns-then-count-widths c =
    let a = c.args in
    let few : a.count < length a.widths.now = omega (arith, c.if-count-widths.true) in
    rw (lt-leb _ _ few)

pub returns-then-n-gt8 : goal.returns-then-n-gt8
unfolding packs
returns-then-n-gt8 c =
    rw (le-leb _ _ (enough (goal.at.returns-then-n-gt8 c).Else-count-widths), c.loop-n.invariant.0 ∙ within_wide _ _ _ c.loop-n-test.true c.if-n-gt8.true)

pub returns-in_err-left : goal.returns-in_err-left
unfolding packs
returns-in_err-left c =
    let over = c.in_err-left.ensures in
    rw (
      c.from_residual.ensures,
      le-leb _ _ (enough (goal.at.returns-in_err-left c).Else-count-widths),
      c.loop-n.invariant.0 ∙ within_over _ _ _ c.loop-n-test.true (omega (arith, over)),
    )

pub loop-n-preserved : goal.loop-n-preserved
loop-n-preserved c =
    let n = total_next c.args.widths.now c.loop-n.n-index c.loop-n-test.true in
    let rest = c.in_ok-left.ensures in (
      rw rest.1 (c.loop-n.invariant.0 ∙ within_next _ _ _ c.loop-n-test.true c.if-n-gt8.false rest.0),
      omega (arith, n, c.loop-n.invariant.1, rest.0, rest.1),
      omega (arith, c.loop-n.invariant.2, rest.0, rest.1),
    )

pub returns : goal.returns
unfolding packs
returns c =
    let e : c.loop-n.n-index ≡ length c.args.widths.now = omega arith in
    let none = within_none c.args.widths.now c.loop-n.left c.loop-n.n-index e in
    let t : 130 - c.loop-n.left ≡ total c.args.widths.now = omega (arith, none.1, c.loop-n.invariant.1, c.loop-n.invariant.2) in
    rw (le-leb _ _ (enough (goal.at.returns c).Else-count-widths), c.loop-n.invariant.0 ∙ none.0) (ap Some t)
