-- `to_columns` meets its contract: by what `cross` leaves of whole entries, and as it is of other data.
use Rattle.std.proofs.Common.{◌≡◌, sym, ap, ◌∙◌, ◌++◌, ℕ, ◌+◌, ◌*◌, take, drop}
use Rattle.octets.specs.Placing.{placed}
use Rattle.columns.specs.Columns.{crossed, by_columns}
use Rattle.columns.proofs.ColumnLaws.{long_columns, columns_whole, columns_not, columns_few}
use Rattle.columns.proofs.to_columns.Goals as goal
use Rattle.columns.proofs.to_columns.Goals.{in_default-via-in-Some+else-wide, in_default-via-in_default}

pub cross-requires : goal.cross-requires
cross-requires c =
    let a = c.args in
    long_columns a.header a.width a.src.now c.in-Some.ensures.0 ∙ ap (λ (k : ℕ). a.header + a.width * k) (sym c.in-Some.ensures.1)

pub returns-in-Some : goal.returns-in-Some
returns-in-Some c =
    let a = c.args in
    (c.cross.ensures.0, c.cross.ensures.1 ∙ ap (placed a.buf.now a.at) ((λ k. take a.header a.src.now ++ crossed (c.in-Some.ensures.1 k) a.width (drop a.header a.src.now)) ∙ sym (columns_whole a.header a.width a.src.now c.in-Some.ensures.0)))

pub returns-in_default : goal.returns-in_default
returns-in_default c =
    let a = c.args in
    let same : by_columns a.header a.width a.src.now ≡ a.src.now =
    elim c.in_default.branch [
      | in_default-via-in-Some+else-wide w ↦ columns_few a.header a.width a.src.now w.in-Some.ensures.0 w.if-wide.false
      | in_default-via-in_default w ↦ columns_not a.header a.width a.src.now w.in_default.ensures
    ] in
    (c.put.ensures.0, c.put.ensures.1 ∙ ap (placed a.buf.now a.at) (sym same))
