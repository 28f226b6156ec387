-- `enabled` meets its contract. The loop's invariant: the word's bits are the places that the triples passed enable.
use mathlib.Core.Path.{◌≡◌, ap, subst, ◌∙◌}
use Prim.Native.Nat.{◌<◌}
use native.Mathlib.Omega.{arith}
use borrow.Author.Rules.{rules}
use Rattle.fields_47.specs.declared.Use.{Use}
use Rattle.satellites.specs.Satellites.{satellite}
use Rattle.in_use.proofs.WordLaws.{Marks, marks_none, marks_more, marks_all, satellite_at, triple_read}
use Rattle.in_use.proofs.enabled.Goals as goal

pub loop-triple-init : goal.loop-triple-init
loop-triple-init c = (omega arith, marks_none _)

pub with_triple-word-requires : goal.with_triple-word-requires
with_triple-word-requires c =
    let d = c.args.body.now in
    let i = c.loop-triple.triple-index in
    let below : i < 56 = c.loop-triple-test.true in
    ap (λ (t : Use). satellite t.system t.number) (triple_read d _ c.read.ensures i below) ∙ satellite_at d c.requires i below

pub loop-triple-preserved : goal.loop-triple-preserved
loop-triple-preserved c =
    let d = c.args.body.now in
    let i = c.loop-triple.triple-index in
    let seen = marks_more d _ i c.loop-triple.invariant.1 _ (triple_read d _ c.read.ensures i c.loop-triple-test.true) in
    (search rules, seen _ c.with_triple-word.ensures)

pub returns : goal.returns
returns c =
    let d = c.args.body.now in
    let e : c.loop-triple.triple-index ≡ 56 = omega arith in
    marks_all d c.requires _ c.loop-triple.invariant.0 (subst (Marks d c.loop-triple.word) e c.loop-triple.invariant.1)
