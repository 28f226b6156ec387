-- `reader::fill` meets its contract: the bytes passed are stored, and none is DLE.
use Rattle.std.proofs.Common.{◌≡◌, subst, ◌+◌, ◌-◌, ◌<◌, arith, rules, length, take, length-take-le}
use Rattle.reader.specs.Moving.{Copied, Fills}
use Rattle.reader.proofs.Bulk.{fills_of, copied_more, copied_then, copied_beyond}
use Rattle.reader.proofs.fill.Goals as goal
use Rattle.reader.proofs.fill.Goals.{After-fill_fours-at}

-- what the fours stored, over the whole slice
fours : (f : After-fill_fours-at) → Copied f.args.d.now f.fill_fours-at.new.d f.args.len f.args.s.now f.args.from f.fill_fours-at.result
fours f =
    let x = f.args in
    let r = f.bound-most.result in
    let l : length (take r x.s.now) ≡ r = length-take-le r x.s.now (omega (arith, f.bound-most.ensures, f.requires)) in
    copied_beyond x.d.now _ x.s.now x.len x.from f.fill_fours-at.result r (omega (arith, l, f.fill_fours-at.ensures.0)) f.fill_fours-at.ensures.1

pub returns-then-b-eq-DLE : goal.returns-then-b-eq-DLE
returns-then-b-eq-DLE c =
    let l = c.loop-at in
    let x = c.args in
    let z = copied_then x.d.now _ l.d x.s.now x.len x.from c.fill_fours-at.result l.at (fours (goal.at.returns-then-b-eq-DLE c).After-fill_fours-at) l.invariant.2 in
    fills_of x.d.now l.d x.s.now x.len x.from x.n l.at z (omega (arith, l.invariant.1, c.bound-most.ensures))
    (omega (arith, l.invariant.1, z.least, c.bound-most.ensures)) (λ h n. absurd (n c.if-b-eq-DLE.true))

pub loop-at-preserved : goal.loop-at-preserved
loop-at-preserved c =
    let x = c.args in
    let i = c.loop-at.invariant in
    let p : c.loop-at.at < length x.s.now = omega (arith, c.bound-most.ensures) in (
      i.0,
      search rules,
      copied_more c.fill_fours-at.new.d c.loop-at.d x.s.now (x.len + (c.fill_fours-at.result - x.from)) c.fill_fours-at.result
          c.loop-at.at _ (omega (arith, i.0, i.2.least)) i.2 p (omega (arith, c.bound-most.ensures, i.0, i.2.least)) c.if-b-eq-DLE.false,
    )

pub returns : goal.returns
returns c =
    let l = c.loop-at in
    let x = c.args in
    let e : l.at ≡ c.bound-most.result = omega (arith, l.invariant.1, c.loop-at-test.false) in
    let z = copied_then x.d.now _ l.d x.s.now x.len x.from c.fill_fours-at.result l.at (fours (goal.at.returns c).After-fill_fours-at) l.invariant.2 in
    subst (Fills x.d.now l.d x.len x.s.now x.from x.n) e
    (fills_of x.d.now l.d x.s.now x.len x.from x.n l.at z (omega (arith, l.invariant.1, c.bound-most.ensures))
    (omega (arith, l.invariant.1, z.least, c.bound-most.ensures)) (λ h n. let w = c.bound-most.ensures.3 (omega arith) in omega (arith, w)))
