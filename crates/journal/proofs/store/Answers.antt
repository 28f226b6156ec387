-- `store` meets its contract: data without repeated entries is put as it is.
use Rattle.std.proofs.Common.{sym, ap, ◌∙◌}
use Rattle.octets.specs.Placing.{placed}
use Rattle.journal.proofs.RecordLaws.{stored_plain}
use Rattle.journal.proofs.store.Goals as goal

pub returns-in-None : goal.returns-in-None
returns-in-None c =
    let a = c.args in
    (c.put.ensures.0, c.put.ensures.1 ∙ ap (placed a.buf.now a.at) (sym (stored_plain a.id a.body.now c.in-None.ensures)))
