-- The total fits into the line.
use Rattle.std.proofs.Common.{List, refl, ℕ, rules, replicate}
use Rattle.record.specs.View.{view}
use Rattle.listing.specs.Text.{total_of, longest_total}
use Rattle.lister.proofs.PartLaws.{total_read, delivered, delivered_length}
use Rattle.streaming.proofs.print_total.Goals as goal

pub unwrap-n-requires : goal.unwrap-n-requires
unwrap-n-requires c =
    let e = c.list_total.ensures in
    let b : List ℕ = replicate longest_total 0 in
    delivered _ (total_of (view c.args.x.chunk.reader)) b e.value.0 e.counts.1

pub returns : goal.returns
returns c =
    let e = c.list_total.ensures in
    let total = total_of (view c.args.x.chunk.reader) in
    let b : List ℕ = replicate longest_total 0 in
    let n = delivered_length _ total b e.value.0 e.counts.1 c.unwrap-n.result c.unwrap-n.ensures in
    record {
      reader = refl;
      refusal = refl;
      read = refl;
      rest = refl;
      last = search rules;
      written = c.write_on-written.ensures;
      total = total_read total b c.list_total.new.buf _ n e.value.1 e.counts.1;
    }
