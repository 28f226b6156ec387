-- `cross` meets its contract. The loop's invariant: the first j columns are placed behind the header.
use mathlib.Core.Path.{◌≡◌, sym, ap, ◌∙◌}
use Prim.Native.Nat.{◌+◌, ◌*◌, ◌≤◌, ◌<◌}
use native.Mathlib.Omega.{arith}
use borrow.Author.Tests.{leb-true, leb-false}
use lib.ListN.{length, take}
use Rattle.octets.specs.Bytes.{byte}
use Rattle.octets.specs.Placing.{placed}
use Rattle.octets.proofs.PlacingLaws.{length_placed, placed_out}
use Rattle.columns.proofs.ColumnLaws.{column_within, crossed_to, lent_placed, cross_start, cross_next, cross_none, cross_out, cross_done}
use Rattle.columns.proofs.cross.Goals as goal
use Rattle.columns.proofs.cross.Goals.{Else-not-within, After-put, In-loop-j}

-- the header is placed, and the buffer as long as it was
headed : (c : After-put)
    → let a = c.args in
    c.put.new.buf ≡ placed a.buf.now a.at (take a.header a.src.now)
headed c = c.put.ensures.1

long : (c : After-put) → length c.put.new.buf ≡ length c.args.buf.now
long c = ap length (headed c) ∙ length_placed _ _ _

-- the data is within the buffer
within : (c : Else-not-within) → c.args.at + length c.args.src.now ≤ length c.args.buf.now
within c = leb-true (c.args.at + length c.args.src.now) (length c.args.buf.now) (sym c.within.ensures ∙ c.if-not-within.false)

-- the entries are within the source, and the columns within the buffer
reads : (c : In-loop-j)
    → let a = c.args in
    (c.loop-j.j < a.w) × (a.header + a.w * a.n ≡ length a.src.now)
    × (a.at + a.header + a.w * a.n ≤ length a.buf.now) × (a.n * c.loop-j.j + a.n ≤ a.w * a.n)
reads c =
    let l = within (goal.at.In-loop-j c).Else-not-within in
    (c.loop-j-test.true, sym c.requires, omega (arith, c.requires, l), column_within _ _ _ c.loop-j-test.true)

pub returns-then-not-within : goal.returns-then-not-within
returns-then-not-within c =
    let a = c.args in
    let e = sym c.within.ensures ∙ c.if-not-within.true in
    let l = leb-false (a.at + length a.src.now) (length a.buf.now) e in
    (sym e, sym (placed_out _ _ _ (cross_out a.src.now a.header a.n a.w a.buf.now a.at c.requires l)))

pub returns-then-n-eq0 : goal.returns-then-n-eq0
returns-then-n-eq0 c =
    let a = c.args in (
      sym (sym c.within.ensures ∙ c.if-not-within.false),
      headed (goal.at.returns-then-n-eq0 c).After-put ∙ cross_none a.src.now a.header a.n a.w a.buf.now a.at c.if-n-eq0.true,
    )

pub loop-j-init : goal.loop-j-init
loop-j-init c = cross_start _ _ _ _ _ _

pub loop-j-preserved : goal.loop-j-preserved
loop-j-preserved c =
    let a = c.args in
    let j = c.loop-j.j in
    let r = reads (goal.at.loop-j-preserved c).In-loop-j in
    let l : a.at + a.header + a.w * a.n ≤ length c.loop-j.buf = omega (arith, r.2, long (goal.at.loop-j-preserved c).After-put, c.loop-j.auto.buf) in
    lent_placed (λ i. byte a.src.now (a.header + j + a.w * i)) c.loop-j.buf (a.at + a.header + a.n * j) a.n (omega (arith, l, r.3)) _ c.gather.ensures
    ∙ cross_next _ _ _ _ _ _ _ (omega (arith, r.2, long (goal.at.loop-j-preserved c).After-put)) r.0 _ c.loop-j.invariant

pub returns : goal.returns
returns c =
    let a = c.args in
    let e : c.loop-j.j ≡ a.w = omega (arith, c.loop-j-test.false, c.loop-j.auto.j-end) in (
      sym (sym c.within.ensures ∙ c.if-not-within.false),
      c.loop-j.invariant
          ∙ (λ k. crossed_to a.src.now a.header a.n a.w (headed (goal.at.returns c).After-put k) a.at (e k))
          ∙ cross_done _ _ _ _ _ _ c.requires (within (goal.at.returns c).Else-not-within),
    )
