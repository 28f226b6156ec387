-- `line_time` meets its contract: a turn of the loop takes a message from what is left.
use Rattle.std.proofs.Common.{◌≡◌, sym, ap, ◌∙◌, subst, ◌+◌, ◌*◌, ◌≤◌, arith, rules, Result, Some, Ok, Err}
use Rattle.refusals.specs.declared.Refusal.{Refusal}
use Rattle.line.specs.Frame.{mode_of}
use Rattle.batch.specs.declared.Message.{Message}
use Rattle.batch.specs.Walks.{left, bytes_left, Gives}
use Rattle.batch.proofs.TimeLaws.{time_from, time_mode, time_list, time_end, turn_most, turn_taken}
use Rattle.batch.proofs.line_time.Goals as goal
use Rattle.batch.proofs.line_time.Goals.{After-frame_length}

-- what a turn takes
given : (c : After-frame_length) → Gives c.loop-message.message-iterator (Some (Ok c.in_ok-message.field-0)) c.next.new.self
given c = subst (λ (r : Result Message Refusal). Gives c.loop-message.message-iterator (Some r) c.next.new.self) c.in_ok-message.was c.in-Some.ensures.steps

few : (c : After-frame_length) → c.frame_length.result + 3 * bytes_left c.next.new.self ≤ 3 * bytes_left c.loop-message.message-iterator
few c = turn_most c.args.mode c.loop-message.message-iterator c.next.new.self c.in_ok-message.field-0 (given c) c.if-mode-gt1.false c.frame_length.result c.frame_length.ensures

pub returns-then-mode-gt1 : goal.returns-then-mode-gt1
returns-then-mode-gt1 c = sym (time_mode c.args.mode c.args.list.now c.if-mode-gt1.true)

pub returns-in_err-message-items : goal.returns-in_err-message-items
returns-in_err-message-items c =
    let g : c.from_residual.result ≡ Err c.in_err-message-items.field-0.0 = search rules in
    rw g (sym (time_list c.args.mode c.args.list.now c.if-mode-gt1.false ∙ ap (time_from (mode_of c.args.mode) 0) (sym c.in_err-message-items.ensures.0)))

pub loop-message-init : goal.loop-message-init
loop-message-init c =
    let e = c.in_ok-message-items.ensures in
    rw c.into_iter-message-iterator.ensures.into_iter_gives
    (tt, omega (arith, e.1), time_list c.args.mode c.args.list.now c.if-mode-gt1.false ∙ ap (time_from (mode_of c.args.mode) 0) (sym e.0))

pub overflow_add-bytes : goal.overflow_add-bytes
overflow_add-bytes c = omega (arith, few (goal.at.overflow_add-bytes c).After-frame_length)

pub returns-in_err-message : goal.returns-in_err-message
returns-in_err-message c =
    let r = c.in_err-message.field-0.0 in
    let g : c.from_residual-in_err-message.result ≡ Err r = search rules in
    let q : Gives c.loop-message.message-iterator (Some (Err r)) c.next.new.self =
    subst (λ (t : Result Message Refusal). Gives c.loop-message.message-iterator (Some t) c.next.new.self) c.in_err-message.was c.in-Some.ensures.steps in
    rw g (sym (c.loop-message.invariant.2 ∙ ap (time_from (mode_of c.args.mode) c.loop-message.bytes) q.0))

pub loop-message-preserved : goal.loop-message-preserved
loop-message-preserved c =
    let w = few (goal.at.loop-message-preserved c).After-frame_length in (
      tt,
      omega (arith, w),
      c.loop-message.invariant.2
          ∙ turn_taken c.args.mode c.loop-message.message-iterator c.next.new.self c.in_ok-message.field-0 (given (goal.at.loop-message-preserved c).After-frame_length)
          c.if-mode-gt1.false c.frame_length.result c.frame_length.ensures c.loop-message.bytes,
    )

pub returns : goal.returns
returns c =
    sym (c.loop-message.invariant.2 ∙ time_end (mode_of c.args.mode) c.loop-message.bytes (left c.loop-message.message-iterator) c.in-None.ensures.steps.0)
