-- `write` meets its contract: each answer is by the tests that led to it.
use Rattle.std.proofs.Common.{rules, ◌≡◌, refl, sym, ap, ◌∙◌, arith, Ok, Err}
use Rattle.refusals.proofs.NumberLaws.{positive}
use Rattle.octets.specs.Delivery.{Written, written}
use Rattle.batch.specs.Entries.{list_of}
use Rattle.journal.specs.Calls.{measured}
use Rattle.journal.proofs.WritingLaws.{write_refused, write_short, write_done}
use Rattle.journal.proofs.write.Goals as goal
use Rattle.journal.proofs.write.Goals.{In_ok-length}

-- what is measured are the messages of the list
long : (c : In_ok-length) → written (Ok c.in_ok-length.length) ≡ measured (list_of c.args.list.now)
long c = c.in_ok-length.ensures ∙ ap measured c.in_ok-messages.ensures.0

pub returns-in_err-messages : goal.returns-in_err-messages
returns-in_err-messages c =
    let a = c.args in
    let r = c.in_err-messages.field-0.0 in
    let g : c.from_residual.result ≡ Err r = search rules in
    rw g (write_refused a.list.now a.buf.now (written (Err r)) (ap measured c.in_err-messages.ensures.0) (positive r))

pub returns-in_err-length : goal.returns-in_err-length
returns-in_err-length c =
    let a = c.args in
    let r = c.in_err-length.field-0.0 in
    let g : c.from_residual-in_err-length.result ≡ Err r = search rules in
    rw g (write_refused a.list.now a.buf.now (written (Err r)) (c.in_err-length.ensures ∙ ap measured c.in_ok-messages.ensures.0) (positive r))

pub returns-then-buf-length : goal.returns-then-buf-length
returns-then-buf-length c =
    let a = c.args in
    write_short a.list.now a.buf.now (written (Ok c.in_ok-length.length)) (long (goal.at.returns-then-buf-length c).In_ok-length) refl c.if-buf-length.true

pub put_records-requires : goal.put_records-requires
put_records-requires c =
    let e = long (goal.at.put_records-requires c).In_ok-length in
    (ap (λ (w : Written). w.refusal) (sym e), omega (arith, ap (λ (w : Written). w.length) e, c.if-buf-length.false))

pub returns : goal.returns
returns c =
    let a = c.args in
    write_done a.list.now a.buf.now (written (Ok c.in_ok-length.length)) (long (goal.at.returns c).In_ok-length) refl c.if-buf-length.false _
    c.put_records.ensures
