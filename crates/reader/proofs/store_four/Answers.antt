-- `reader::store_four` meets its contract: a byte a turn.
use Rattle.std.proofs.Common.{◌≡◌, ◌∙◌, ◌+◌, arith}
use lib.ListN.{length-set}
use Rattle.reader.proofs.Bulk.{copied_more}
use Rattle.reader.proofs.store_four.Goals as goal

pub loop-i-preserved : goal.loop-i-preserved
loop-i-preserved c =
    let l = c.loop-i in
    let x = c.args in (
      length-set l.d (x.to + l.i) _ ∙ l.invariant.0,
      λ a len from e n k.
          let m : x.at + (l.i + 1) ≡ x.at + l.i + 1 = omega arith in
          rw m
          (copied_more a l.d x.s.now len from (x.at + l.i) (x.to + l.i) (omega (arith, e, k.least)) (l.invariant.1 a len from e n k)
          (omega (arith, c.requires.0, c.loop-i-test.true)) (omega (arith, c.requires.1, c.loop-i-test.true))
          (n (x.at + l.i) (omega arith) (omega (arith, c.loop-i-test.true)))),
    )
