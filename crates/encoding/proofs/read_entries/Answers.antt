-- `read_entries` meets its contract: a call for each index.
use Rattle.std.proofs.Common.{rules, ◌≡◌, ℕ}
use mathlib.Core.Bool.{cond}
use mathlib.Core.List.{[]}
use lib.Dec.{ltb}
use lib.ListN.{length, get_or}
use Rattle.encoding.specs.Entries.{firsts}
use Rattle.encoding.proofs.MadeLaws.{made}
use Rattle.encoding.proofs.ReadingLaws.{read_chunks}
use Rattle.encoding.proofs.read_entries.Goals as goal

pub returns : goal.returns
returns g c =
    let s = g.E.Entry.series in
    let all = c.as_chunks.result.0.now in
    let at : ℕ → g.row.E.Denot = λ i. cond (ltb i (length all)) (s.entry_of (get_or all i [])) s.blank in
    let each : c.from_fn.result ≡ firsts at g.row.MOST = made _ _ at (λ i y q k. search rules) _ s.blank g.row.MOST c.from_fn.ensures.items in
    read_chunks s c.args.bytes.now g.row.WIDTH g.row.MOST g.met.E.Entry.wide.0 all c.as_chunks.ensures.front c.as_chunks.ensures.front_len _ each
