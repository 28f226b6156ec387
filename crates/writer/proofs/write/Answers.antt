-- `write` meets its contract: each return is a case of the laws.
use Rattle.std.proofs.Common.{rules, ◌≡◌, ◌∙◌, sym, ap, arith, length, Err}
use Rattle.refusals.specs.Numbers.{number}
use Rattle.refusals.proofs.NumberLaws.{positive}
use Rattle.kinds.specs.Kinds.{content}
use Rattle.kinds.proofs.ContentLaws.{content_length}
use Rattle.octets.specs.Delivery.{refused, accepted}
use Rattle.line.specs.Frame.{mode_of, frame}
use Rattle.writer.proofs.FrameLength.{length_on_line_lem}
use Rattle.writer.proofs.WritingLaws.{wrong_mode, wrong_content, too_short, all_written}
use Rattle.writer.proofs.write.Goals as goal
use Rattle.writer.proofs.write.Goals.{After-frame_length-n}

-- past the second question the data fits into a frame, and the length is that of its frame
long : (c : After-frame_length-n)
    → let a = c.args in
    c.frame_length-n.result ≡ length (frame (mode_of a.mode) a.id a.body.now)
long c =
    let a = c.args in
    c.frame_length-n.ensures a.id
    ∙ length_on_line_lem a.mode a.id a.body.now c.if-mode-gt1.false (content_length a.id a.body.now (sym c.in_ok-content.ensures))

pub returns-then-mode-gt1 : goal.returns-then-mode-gt1
returns-then-mode-gt1 c =
    let a = c.args in
    wrong_mode a.mode a.id a.body.now a.buf.now (omega arith)

pub returns-in_err-content : goal.returns-in_err-content
returns-in_err-content c =
    let a = c.args in
    let r = c.in_err-content.field-0.0 in
    let g : c.from_residual.result ≡ Err r = search rules in
    let e : number r ≡ content a.id a.body.now = c.in_err-content.ensures in
    let w = wrong_content a.mode a.id a.body.now a.buf.now c.if-mode-gt1.false (λ z. positive r (e ∙ z)) in
    rw g (ap refused e ∙ w.0, w.1)

pub returns-then-buf-n : goal.returns-then-buf-n
returns-then-buf-n c =
    let a = c.args in
    too_short a.mode a.id a.body.now a.buf.now c.if-mode-gt1.false (sym c.in_ok-content.ensures)
    (omega (arith, long (goal.at.returns-then-buf-n c).After-frame_length-n, c.if-buf-n.true))

pub fill-requires : goal.fill-requires
fill-requires c = omega (arith, long (goal.at.fill-requires c).After-frame_length-n, c.if-buf-n.false)

pub returns : goal.returns
returns c =
    let a = c.args in
    let n = long (goal.at.returns c).After-frame_length-n in
    let all =
    all_written a.mode a.id a.body.now a.buf.now c.if-mode-gt1.false (sym c.in_ok-content.ensures)
    (omega (arith, n, c.if-buf-n.false)) in
    (ap accepted n ∙ all.0, c.fill.ensures ∙ all.1)
