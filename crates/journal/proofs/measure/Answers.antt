-- `measure` meets its contract: a turn of the loop takes a message from what is left.
use Rattle.std.proofs.Common.{◌≡◌, sym, ap, ◌∙◌, subst, arith, rules, Result, Some, Ok, Err}
use Rattle.refusals.specs.declared.Refusal.{Refusal}
use Rattle.batch.specs.declared.Message.{Message}
use Rattle.batch.specs.Walks.{left, Gives}
use Rattle.journal.proofs.WritingLaws.{measured_from, measure_start, measure_end, measure_taken}
use Rattle.journal.proofs.measure.Goals as goal
use Rattle.journal.proofs.measure.Goals.{In_ok-length}

-- what a turn takes
given : (c : In_ok-length) → Gives c.loop-message.message-iterator (Some (Ok c.in_ok-length.field-0)) c.next.new.self
given c = subst (λ (r : Result Message Refusal). Gives c.loop-message.message-iterator (Some r) c.next.new.self) c.in_ok-length.was c.in-Some.ensures.steps

pub loop-message-init : goal.loop-message-init
loop-message-init c = rw c.into_iter-message-iterator.ensures.into_iter_gives (tt, omega arith, measure_start (left c.args.messages))

pub overflow_add-length : goal.overflow_add-length
overflow_add-length c = omega (arith, (given (goal.at.overflow_add-length c).In_ok-length).2, c.ranges.messages)

pub returns-in_err-length : goal.returns-in_err-length
returns-in_err-length c =
    let r = c.in_err-length.field-0.0 in
    let g : c.from_residual.result ≡ Err r = search rules in
    let q : Gives c.loop-message.message-iterator (Some (Err r)) c.next.new.self =
    subst (λ (t : Result Message Refusal). Gives c.loop-message.message-iterator (Some t) c.next.new.self) c.in_err-length.was c.in-Some.ensures.steps in
    rw g (sym (c.loop-message.invariant.2 ∙ ap (measured_from c.loop-message.length) q.0))

pub loop-message-preserved : goal.loop-message-preserved
loop-message-preserved c =
    let g = given (goal.at.loop-message-preserved c).In_ok-length in
    (tt, omega (arith, g.2), c.loop-message.invariant.2 ∙ measure_taken c.loop-message.message-iterator c.next.new.self c.in_ok-length.field-0 g c.loop-message.length)

pub returns : goal.returns
returns c = sym (c.loop-message.invariant.2 ∙ measure_end c.loop-message.length (left c.loop-message.message-iterator) c.in-None.ensures.steps.0)
