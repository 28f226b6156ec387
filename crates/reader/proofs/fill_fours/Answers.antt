-- `reader::fill_fours` meets its contract: four bytes a turn, none of them DLE.
use Rattle.std.proofs.Common.{true, ◌≡◌, refl, sym, ◌∙◌, arith}
use Rattle.stuffing.proofs.PlainLaws.{Plain, plain_of}
use Rattle.reader.proofs.Bulk.{none_four}
use Rattle.reader.proofs.fill_fours.Goals as goal
use Rattle.reader.proofs.fill_fours.Goals.{After-four_plain}

plain_here : (p : After-four_plain) → p.four_plain.result ≡ true → Plain p.args.s.now p.loop-to.at
plain_here p e = plain_of _ _ (sym p.four_plain.ensures ∙ e)

pub store_four-requires : goal.store_four-requires
store_four-requires c =
    let t = (plain_here (goal.at.store_four-requires c).After-four_plain c.loop-to-test.true).there in
    (t, omega (arith, t, c.loop-to.invariant.1.least, c.requires.1), c.loop-to.invariant.1.whole)

pub loop-to-smaller : goal.loop-to-smaller
loop-to-smaller c = omega (arith, (plain_here (goal.at.loop-to-smaller c).After-four_plain c.loop-to-test.true).there)

pub loop-to-preserved : goal.loop-to-preserved
loop-to-preserved c =
    let l = c.loop-to in
    let x = c.args in
    let p = plain_here (goal.at.loop-to-preserved c).After-four_plain c.loop-to-test.true in
    (p.there, c.store_four.ensures x.d.now x.len x.from refl (none_four x.s.now l.at p) l.invariant.1)
