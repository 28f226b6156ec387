-- `put_record` meets its contract: the head, and after it the data as a record has them.
use Rattle.std.proofs.Common.{◌≡◌, ap, ◌∙◌, ℕ, ◌+◌, List, length}
use Rattle.octets.specs.Placing.{placed}
use Rattle.batch.specs.Walks.{entry as taken}
use Rattle.journal.specs.Records.{stored, head_bytes}
use Rattle.journal.proofs.RecordLaws.{record_placed}
use Rattle.journal.proofs.put_record.Goals as goal

pub returns : goal.returns
returns c =
    let a = c.args in
    let x = taken a.message in
    let headed : c.put.new.buf ≡ placed a.buf.now a.at (head_bytes x.id (length x.body)) =
    c.put.ensures.1 ∙ ap (placed a.buf.now a.at) c.head-top.ensures in
    c.store.ensures.1
    ∙ ap (λ (b : List ℕ). placed b (a.at + 5) (stored x.id x.body)) headed
    ∙ record_placed x a.buf.now a.at c.requires.1
