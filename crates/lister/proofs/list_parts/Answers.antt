-- `list_parts` meets its contract. The loop's invariant is `Underway`; each turn takes a byte or is the last.
use Rattle.std.proofs.Common.{◌≡◌, refl, sym, ap, ◌∙◌, ◌+◌, ◌≤◌, arith, length, take}
use Rattle.octets.specs.Delivery.{accepted}
use Rattle.octets.proofs.DeliveryLaws.{short, writes}
use Rattle.record.specs.View.{view}
use Rattle.listing.specs.Text.{total_of, longest_event}
use Rattle.lister.specs.Listing.{text}
use Rattle.lister.proofs.PartLaws.{Listed, called, total_read, delivered, delivered_length}
use Rattle.lister.specs.Posts.{placed_if}
use Rattle.lister.proofs.Parts.{Underway, over_still, total_rest, total_over, total_written, part_over, part_next}
use Rattle.lister.proofs.list_parts.Goals as goal
use Rattle.lister.proofs.list_parts.Goals.{After-list_part-p, After-unwrap-m, After-put_if}

-- what the call listed
listed : (c : After-list_part-p)
    → Listed c.loop-buf.g c.args.s.now c.loop-buf.at c.list_part-p.result c.list_part-p.new.buf
listed c =
    let w = c.loop-buf.invariant in
    let k : longest_event ≤ length c.loop-buf.lines = omega (arith, w.long) in
    let e = c.list_part-p.ensures in
    called c.loop-buf.g c.args.s.now c.loop-buf.at c.loop-buf.lines c.list_part-p.result c.list_part-p.new.buf
    w.good k w.within e.part e.counts.0 e.counts.1

-- the lines are written, if they are to be, and the rest is right
turned : (c : After-put_if) → Listed c.loop-buf.g c.args.s.now c.loop-buf.at c.list_part-p.result c.list_part-p.new.buf →
    let a = c.args in
    let x = c.list_part-p.result in
    Underway a.write (text (view a.r) a.s.now) a.s.now a.buf.now c.put_if.new.buf x.reader c.list_part-p.new.buf
    (c.loop-buf.at + x.taken) (c.loop-buf.to + x.length)
turned c l =
    part_next c.loop-buf.invariant l c.put_if.new.buf (c.loop-buf.invariant.long ∙ sym c.list_part-p.auto.buf) c.if-buf-to.false c.put_if.ensures

-- only the total is left, and it is written whole
last : (c : After-unwrap-m) →
    let x = c.list_part-p.result in
    let total = total_of (view x.reader) in
    let b = c.list_total.new.buf in
    let n = c.unwrap-m.result in
    let a = c.args in
    c.loop-buf.to + x.length + length total ≡ length (text (view a.r) a.s.now)
    → (c.loop-buf.to + x.length + n ≡ length (text (view a.r) a.s.now)) × (n ≡ length total) × (take n b ≡ total)
last c q =
    let b = c.list_part-p.new.buf in
    let e = c.list_total.ensures in
    let total = total_of (view c.list_part-p.result.reader) in
    let k : length total ≤ length b = omega (arith, e.counts.1, c.loop-buf.invariant.long ∙ sym c.list_part-p.auto.buf) in
    let w = delivered_length _ total b e.value.0 k c.unwrap-m.result c.unwrap-m.ensures in
    (omega (arith, q, w), w, total_read total b c.list_total.new.buf _ w e.value.1 k)

pub unwrap-m-requires : goal.unwrap-m-requires
unwrap-m-requires c =
    let e = c.list_total.ensures in
    delivered _ (total_of (view c.list_part-p.result.reader)) c.list_part-p.new.buf e.value.0
    (omega (arith, e.counts.1, c.loop-buf.invariant.long ∙ sym c.list_part-p.auto.buf))

pub returns-then-buf-to : goal.returns-then-buf-to
returns-then-buf-to c =
    let a = c.args in
    let over = part_over c.loop-buf.invariant (listed (goal.at.returns-then-buf-to c).After-list_part-p) c.if-buf-to.true in
    (sym (short 0 (text (view a.r) a.s.now) a.buf.now refl over).0, over_still c.loop-buf.invariant over)

pub returns-then-buf-to-2 : goal.returns-then-buf-to-2
returns-then-buf-to-2 c =
    let a = c.args in
    let l = listed (goal.at.returns-then-buf-to-2 c).After-list_part-p in
    let u = turned (goal.at.returns-then-buf-to-2 c).After-put_if l in
    let total = total_of (view c.list_part-p.result.reader) in
    let end = l.end c.if-p-eq0.true in
    let e = last (goal.at.returns-then-buf-to-2 c).After-unwrap-m (total_rest u total end) in
    let over = total_over u total end (omega (arith, e.1, c.if-buf-to-2.true)) in
    (sym (short 0 (text (view a.r) a.s.now) a.buf.now refl over).0, over_still u over)

pub returns-then-p-eq0 : goal.returns-then-p-eq0
returns-then-p-eq0 c =
    let a = c.args in
    let l = listed (goal.at.returns-then-p-eq0 c).After-list_part-p in
    let u = turned (goal.at.returns-then-p-eq0 c).After-put_if l in
    let b = c.put_if.new.buf in
    let to = c.loop-buf.to + c.list_part-p.result.length in
    let total = total_of (view c.list_part-p.result.reader) in
    let end = l.end c.if-p-eq0.true in
    let e = last (goal.at.returns-then-p-eq0 c).After-unwrap-m (total_rest u total end) in (
      ap accepted e.0 ∙ sym (writes 0 (text (view a.r) a.s.now) a.buf.now refl (omega (arith, e.0, c.if-buf-to-2.false, u.fits, u.same))).0,
      total_written u total end c.put_if-then-p-eq0.new.buf (c.put_if-then-p-eq0.ensures ∙ ap (placed_if a.write b to) e.2),
    )

pub loop-buf-preserved : goal.loop-buf-preserved
loop-buf-preserved c = turned (goal.at.loop-buf-preserved c).After-put_if (listed (goal.at.loop-buf-preserved c).After-list_part-p)
