-- `lay_out` meets its contract.
use Rattle.std.proofs.Common.{◌≡◌, ap, ◌∙◌, min}
use Prim.Native.Nat.{◌/◌}
use native.Mathlib.Omega.{arith}
use lib.ListN.{length, take, drop}
use Rattle.answering.proofs.PartsLaws.{Stands, stands_none, stands_more, stands_all, stands_out, laid_whole, laid_short}
use Rattle.answering.proofs.lay_out.Goals.{else-loop-test, then-loop-test+then-not-put}
use Rattle.answering.proofs.lay_out.Goals as goal

pub loop-init : goal.loop-init
loop-init c = stands_none c.args.buf.now c.in_ok-part.part.now

pub loop-preserved : goal.loop-preserved
loop-preserved c = stands_more _ _ _ _ _ _ c.loop.invariant c.if-not-put.ensures.0 c.if-not-put.ensures.1

pub returns-then-not-put-2 : goal.returns-then-not-put-2
returns-then-not-put-2 c =
    let s = c.args.call.now in
    let b = c.args.buf.now in
    let p = c.in_ok-part.part.now in
    let cut = c.in_ok-part.ensures.cases in
    let w = c.from-length.result in
    let bytes : c.in_ok-bytes.bytes.now ≡ drop 6 s = c.in_ok-bytes.ensures.cases.2 in
    let stands : Stands b p (min c.u16_at-count.result (length b / length p)) c.loop.at c.loop-test.buf =
    elim c.loop-test.branch [
      | else-loop-test w ↦ stands_all b p _ _ _ _ _ w.loop-test.false c.loop.auto.counter-end w.buf-is c.loop.invariant
      | then-loop-test+then-not-put w ↦ stands_out b p _ _ _ _ _ _ w.loop-test.true w.buf-is c.loop.invariant w.if-not-put.ensures.0 w.if-not-put.ensures.1
    ] in
    laid_short s b p _ _ _ c.u16_at-count.ensures (c.from-length.ensures ∙ c.u16_at.ensures) (omega (arith, c.in_ok-bytes.ensures.cases))
    (cut.1 ∙ ap (take w) bytes) (cut.2 ∙ ap (drop w) bytes) _ _ _ stands c.put-2.ensures.1 c.if-not-put-2.ensures.0

pub returns : goal.returns
returns c =
    let s = c.args.call.now in
    let b = c.args.buf.now in
    let p = c.in_ok-part.part.now in
    let cut = c.in_ok-part.ensures.cases in
    let w = c.from-length.result in
    let bytes : c.in_ok-bytes.bytes.now ≡ drop 6 s = c.in_ok-bytes.ensures.cases.2 in
    let stands : Stands b p (min c.u16_at-count.result (length b / length p)) c.loop.at c.loop-test.buf =
    elim c.loop-test.branch [
      | else-loop-test w ↦ stands_all b p _ _ _ _ _ w.loop-test.false c.loop.auto.counter-end w.buf-is c.loop.invariant
      | then-loop-test+then-not-put w ↦ stands_out b p _ _ _ _ _ _ w.loop-test.true w.buf-is c.loop.invariant w.if-not-put.ensures.0 w.if-not-put.ensures.1
    ] in
    laid_whole s b p _ _ _ c.u16_at-count.ensures (c.from-length.ensures ∙ c.u16_at.ensures) (omega (arith, c.in_ok-bytes.ensures.cases))
    (cut.1 ∙ ap (take w) bytes) (cut.2 ∙ ap (drop w) bytes) _ _ _ stands c.put-2.ensures.1 c.if-not-put-2.ensures.0
