-- `split_first` meets its contract: an entry that is not whole is refused by 19, another is judged by its data.
use Rattle.std.proofs.Common.{◌≡◌, sym, ap, ◌∙◌, subst, rules, List, ℕ, Option, Some, None, Err}
use Rattle.std.specs.Option.{ok_or}
use Rattle.std.specs.Borrow.{Bor}
use Rattle.refusals.specs.declared.Refusal.{Refusal}
use Rattle.refusals.specs.Numbers.{number, code}
use Rattle.refusals.proofs.NumberLaws.{positive}
use Rattle.batch.specs.declared.Message.{Message}
use Rattle.batch.specs.Entries.{wrong}
use Rattle.batch.specs.Walks.{Splits}
use Rattle.batch.proofs.WalkLaws.{split_none, split_refused, split_given}
use Rattle.batch.proofs.split_first.Goals as goal
use Rattle.batch.proofs.split_first.Goals.{In_ok-message}

-- the entry as it stands
split : (c : In_ok-message) → Splits c.args.list.now (Some (c.in_ok-message.message, c.in_ok-message.rest))
split c = subst (Splits c.args.list.now) c.in_ok-message.ensures.ok_part c.split_entry.ensures

pub returns-in_err-message : goal.returns-in_err-message
returns-in_err-message c =
    let s = c.args.list.now in
    let r = c.in_err-message.field-0.0 in
    let g : c.from_residual.result ≡ Err r = search rules in
    let n : c.split_entry.result ≡ None = c.in_err-message.ensures.ok_part in
    let e : number r ≡ 19 = ap code (c.in_err-message.ensures.value ∙ ap (λ (o : Option (Message × Bor (List ℕ))). ok_or o Refusal.List) n) in
    rw g (split_none s (subst (Splits s) n c.split_entry.ensures) ∙ ap wrong (sym e))

pub returns-in_err-content : goal.returns-in_err-content
returns-in_err-content c =
    let r = c.in_err-content.field-0.0 in
    let g : c.from_residual-in_err-content.result ≡ Err r = search rules in
    rw g
    (split_refused c.args.list.now c.in_ok-message.message c.in_ok-message.rest (split (goal.at.returns-in_err-content c).In_ok-message) (number r)
    c.in_err-content.ensures (positive r))

pub returns : goal.returns
returns c =
    split_given c.args.list.now c.in_ok-message.message c.in_ok-message.rest (split (goal.at.returns c).In_ok-message) (sym c.in_ok-content.ensures)
