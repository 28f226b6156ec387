-- `reader::run` meets its contract: the invariant says what is left to do.
use Rattle.std.proofs.Common.{◌≡◌, sym, ◌∙◌, arith}
use Rattle.std.proofs.lemmas.Bool.{true≢false}
use Rattle.reader.specs.declared.Act.TheVariants.{Quiet}
use Rattle.reader.proofs.Feeding.{left_again, ran_through}
use Rattle.reader.proofs.run.Goals as goal
use Rattle.reader.proofs.run.Goals.{in-Quiet, in_default}

pub loop-at-preserved : goal.loop-at-preserved
loop-at-preserved c =
    let g = c.advance-t.ensures in
    let l = c.loop-at.invariant in
    let x = c.args in
    let e : c.advance-t.result.act ≡ Quiet =
    elim c.match-matches.branch [ in-Quiet w ↦ w.in-Quiet.is | in_default w ↦ absurd (true≢false (sym c.if-not-matches.false ∙ w.matches-is)) ] in
    (g.most, g.whole, g.pends e, g.fits, g.sound e l.4, omega (arith, g.tally, l.5), left_again x.mode x.m0 x.d.now l.6 g e)

pub returns : goal.returns
returns c =
    let l = c.loop-at.invariant in
    rw c.quiet.ensures (ran_through l.6 l.5 l.3 (omega (arith, l.0, c.loop-at-test.false)) l.1)
