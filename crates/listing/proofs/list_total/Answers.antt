-- `list_total` meets its contract: what `total_line` says of the counts.
use Rattle.std.proofs.Common.{◌≡◌, ◌∙◌, ap, subst, List, ℕ, ◌≤◌, length}
use Rattle.octets.specs.Delivery.{written_of, filled_of}
use Rattle.record.specs.View.{view}
use Rattle.listing.specs.declared.Totals.{Totals}
use Rattle.listing.specs.Text.{total_line, total_of, longest_total}
use Rattle.listing.proofs.LineLaws.{written_counts}
use Rattle.listing.proofs.list_total.Goals as goal

-- the line of five counts
abbrev line : Totals → List ℕ
line t = total_line t.fed t.accepted t.refused t.outside t.pending

pub returns : goal.returns
returns c =
    let a = c.args in
    let e = c.total_line.ensures in
    let s : line c.from.result ≡ total_of (view a.r) = ap line c.from.ensures in
    let w = e.value.0 ∙ ap (λ l. written_of 0 l a.buf.now) s in
    let f = e.value.1 ∙ ap (λ l. filled_of 0 l a.buf.now) s in
    record { value = (w, f); counts = (written_counts (total_of (view a.r)) a.buf.now _ _ w f, subst (λ l. length l ≤ longest_total) s e.longest) }
