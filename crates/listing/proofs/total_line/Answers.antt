-- `total_line` meets its contract: the line is put straight into a buffer that has room for the longest, and else composed apart.
use mathlib.Core.Path.{◌≡◌}
use mathlib.Core.List.{List}
use Prim.Native.Nat.{ℕ}
use lib.ListN.{length}
use native.Mathlib.Omega.{arith}
use Rattle.listing.specs.Text.{total_line}
use Rattle.listing.proofs.LineLaws.{line_placed, line_delivered}
use Rattle.listing.proofs.total_line.Goals as goal
use Rattle.listing.proofs.total_line.Goals.{Start}

abbrev text : Start → List ℕ
text g = let a = g.args in total_line a.t.fed a.t.accepted a.t.refused a.t.outside a.t.pending

pub returns-then-buf-ge-LONGEST_TOTAL : goal.returns-then-buf-ge-LONGEST_TOTAL
returns-then-buf-ge-LONGEST_TOTAL c =
    let e = c.put_total.ensures in
    let i = c.if-buf-ge-LONGEST_TOTAL.true in
    record { value = line_placed (text (goal.at.returns-then-buf-ge-LONGEST_TOTAL c).Start) c.args.buf.now _ c.put_total.result e.0 e.1 (omega (arith, e.2, i)); longest = omega (arith, e.0, e.2) }

pub returns : goal.returns
returns c =
    let t = text (goal.at.returns c).Start in
    let e = c.put_total-n.ensures in
    let k = c.put_total-n.auto.line in
    let n : c.put_total-n.result ≡ length t = omega (arith, e.0) in
    record { value = line_delivered t _ c.put_total-n.new.line c.args.buf.now _ n e.1 (omega (arith, e.2)) c.deliver.ensures; longest = omega (arith, n, e.2) }
