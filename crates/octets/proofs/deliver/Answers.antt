-- `octets::deliver` meets its contract: each return is a case of the laws.
use Rattle.std.proofs.Common.{rules, sym, ap, ◌≡◌, ◌∙◌, ◌≤◌, ◌<◌, arith, length, Err}
use Rattle.refusals.specs.Numbers.{code}
use Rattle.octets.proofs.PlacingLaws.{placed_start}
use Rattle.octets.proofs.DeliveryLaws.{refused_before, short, writes}
use Rattle.octets.proofs.deliver.Goals as goal

pub returns-in_err-judged : goal.returns-in_err-judged
returns-in_err-judged c =
    let r = c.in_err-judged.field-0.0 in
    let e : c.from_residual.result ≡ Err r = search rules in
    rw e (refused_before _ _ _ r (sym (ap (λ x. code x) c.in_err-judged.was)))

pub returns-then-buf-n : goal.returns-then-buf-n
returns-then-buf-n c =
    let a = c.args in
    let k : length a.buf.now < length a.text.now = omega (arith, c.if-buf-n.true) in
    let r = short (code a.judged) a.text.now a.buf.now (ap (λ x. code x) c.in_ok-judged.was) k in
    (sym r.0, sym r.1)

pub returns : goal.returns
returns c =
    let a = c.args in
    let k : length a.text.now ≤ length a.buf.now = omega (arith, c.if-buf-n.false) in
    let r = writes (code a.judged) a.text.now a.buf.now (ap (λ x. code x) c.in_ok-judged.was) k in
    (sym r.0, rw c.copy_from_slice.ensures.after (sym (placed_start a.buf.now a.text.now k)) ∙ sym r.1)
