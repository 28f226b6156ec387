-- `event_line` meets its contract: the line is put straight into a buffer that has room for the longest, and else composed apart.
use mathlib.Core.Path.{◌≡◌}
use mathlib.Core.List.{List}
use Prim.Native.Nat.{ℕ}
use lib.ListN.{length}
use native.Mathlib.Omega.{arith}
use Rattle.listing.specs.Text.{event_line}
use Rattle.listing.proofs.LineLaws.{line_placed, line_delivered}
use Rattle.listing.proofs.event_line.Goals as goal
use Rattle.listing.proofs.event_line.Goals.{Start}

abbrev text : Start → List ℕ
text g = let a = g.args in event_line a.offset a.id a.number a.closed

pub returns-then-buf-ge-LONGEST_EVENT : goal.returns-then-buf-ge-LONGEST_EVENT
returns-then-buf-ge-LONGEST_EVENT c =
    let e = c.put_event.ensures in
    let i = c.if-buf-ge-LONGEST_EVENT.true in
    record { value = line_placed (text (goal.at.returns-then-buf-ge-LONGEST_EVENT c).Start) c.args.buf.now _ c.put_event.result e.0 e.1 (omega (arith, e.2, i)); longest = omega (arith, e.0, e.2) }

pub returns : goal.returns
returns c =
    let t = text (goal.at.returns c).Start in
    let e = c.put_event-n.ensures in
    let k = c.put_event-n.auto.line in
    let n : c.put_event-n.result ≡ length t = omega (arith, e.0) in
    record { value = line_delivered t _ c.put_event-n.new.line c.args.buf.now _ n e.1 (omega (arith, e.2)) c.deliver.ensures; longest = omega (arith, n, e.2) }
