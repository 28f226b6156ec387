-- `in_47` meets its contract: the bits are the places of the triples passed, none of them twice.
use Rattle.std.proofs.lemmas.Grind.{common_steps}
use Rattle.std.proofs.Common.{◌≡◌, sym, List, ℕ, arith, eqb-true}
use borrow.Author.Tests.{eqb-false}
use Rattle.satellites.proofs.BitLaws.{inserted}
use Rattle.ranges.proofs.OnceLaws.{seen_none, seen_more, seen_all, seen_bad, seen_twice}
use Rattle.ranges.proofs.in_47.Goals as goal
use Rattle.ranges.proofs.in_47.Goals.{After-triple}

abbrev body : After-triple → List ℕ
body c = c.args.body.now

pub loop-i-init : goal.loop-i-init
loop-i-init c = seen_none _

pub returns-then-not-triple : goal.returns-then-not-triple
returns-then-not-triple c = grind (arith, common_steps, seen_bad)

pub returns-then-contains : goal.returns-then-contains
returns-then-contains c = grind (arith, common_steps, eqb-true, seen_twice)

pub loop-i-preserved : goal.loop-i-preserved
loop-i-preserved c = grind (arith, common_steps, eqb-false, seen_more, inserted)

pub returns : goal.returns
returns c =
    let e : c.loop-i.i ≡ 56 = omega arith in
    sym (seen_all c.args.body.now c.loop-i.seen (rw e at c.loop-i.invariant))
