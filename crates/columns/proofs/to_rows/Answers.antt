-- `to_rows` meets its contract: by what `cross` leaves of whole entries, and as it is of other data.
use Rattle.std.proofs.Common.{sym, ap, ◌∙◌, ◌++◌, ℕ, ◌+◌, ◌*◌, take, drop}
use Rattle.octets.specs.Placing.{placed}
use Rattle.columns.specs.Columns.{crossed}
use Rattle.columns.proofs.ColumnLaws.{long_rows, rows_whole, rows_not}
use Rattle.columns.proofs.to_rows.Goals as goal

pub cross-requires : goal.cross-requires
cross-requires c =
    let a = c.args in
    long_rows a.header a.width a.src.now c.in-Some.ensures.0 ∙ ap (λ (k : ℕ). a.header + k * a.width) (sym c.in-Some.ensures.1)

pub returns-in-Some : goal.returns-in-Some
returns-in-Some c =
    let a = c.args in
    (c.cross.ensures.0, c.cross.ensures.1 ∙ ap (placed a.buf.now a.at) ((λ k. take a.header a.src.now ++ crossed a.width (c.in-Some.ensures.1 k) (drop a.header a.src.now)) ∙ sym (rows_whole a.header a.width a.src.now c.in-Some.ensures.0)))

pub returns-in-None : goal.returns-in-None
returns-in-None c =
    let a = c.args in
    (c.put.ensures.0, c.put.ensures.1 ∙ ap (placed a.buf.now a.at) (sym (rows_not a.header a.width a.src.now c.in-None.ensures)))
