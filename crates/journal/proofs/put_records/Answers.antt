-- `put_records` meets its contract: a turn of the loop takes an entry from what is left, and none is refused.
use Rattle.std.proofs.Common.{◌≡◌, refl, sym, ap, ◌∙◌, subst, ℕ, ◌+◌, ◌≤◌, ◌<◌, List, length, arith, Some, Ok}
use Rattle.octets.specs.Placing.{placed}
use Rattle.octets.proofs.PlacingLaws.{length_placed, placed_nil}
use Rattle.batch.specs.declared.Messages.{Messages}
use Rattle.batch.specs.Entries.{Contents, contents_of}
use Rattle.batch.specs.Walks.{entry as taken, Splits, Gives}
use Rattle.batch.proofs.WalkLaws.{split_gives}
use Rattle.journal.specs.Records.{record_of}
use Rattle.journal.specs.Calls.{refusal_in, records_in}
use Rattle.journal.proofs.WritingLaws.{as_contents, entire, unrefused, at_last, none_left, small, rest_entire, written_one}
use Rattle.journal.proofs.put_records.Goals as goal
use Rattle.journal.proofs.put_records.Goals.{In-Some}

-- what a turn takes, and the room for its record
abbrev before : In-Some → Messages
before c = record { rest = c.loop-message.rest }

abbrev after : In-Some → Messages
after c = record { rest = c.in-Some.after }

given : (c : In-Some) → Gives (before c) (Some (Ok c.in-Some.message)) (after c)
given c =
    let s = c.loop-message.rest.now in
    split_gives (before c) (after c) c.in-Some.message (unrefused s c.loop-message.invariant.1 (omega (arith, c.in-Some.ensures.0))) c.in-Some.ensures

room : (c : In-Some)
    → let s = contents_of c.loop-message.rest.now in
    let t = contents_of c.in-Some.after.now in
    let to = c.loop-message.to + (5 + length c.in-Some.message.data.now) in
    (to + length (records_in t) ≤ length c.loop-message.buf)
    × (placed c.loop-message.buf c.loop-message.to (records_in s)
    ≡ placed (placed c.loop-message.buf c.loop-message.to (record_of (taken c.in-Some.message))) to (records_in t))
room c =
    let l = c.loop-message in
    written_one (before c) (after c) c.in-Some.message (given c) l.invariant.1 l.buf l.to l.invariant.2

pub loop-message-init : goal.loop-message-init
loop-message-init c =
    let s = c.args.list.now in
    let e = as_contents s c.requires.0 in
    let z = ap refusal_in (sym e) ∙ c.requires.0 in
    let n = ap (λ (k : Contents). length (records_in k)) e in
    (refl, entire s z, omega (arith, c.requires.1, n), refl)

pub put_record-requires : goal.put_record-requires
put_record-requires c =
    let i = (goal.at.put_record-requires c).In-Some in
    (omega (arith, small (before i) (after i) c.in-Some.message (given i)), omega (arith, (room i).0))

pub overflow_add-to-in-Some : goal.overflow_add-to-in-Some
overflow_add-to-in-Some c = omega (arith, (room (goal.at.overflow_add-to-in-Some c).In-Some).0)

pub loop-message-smaller : goal.loop-message-smaller
loop-message-smaller c =
    let l : length c.in-Some.after.now < length c.loop-message.rest.now = omega (arith, (given (goal.at.loop-message-smaller c).In-Some).2) in l

pub loop-message-preserved : goal.loop-message-preserved
loop-message-preserved c =
    let i = (goal.at.loop-message-preserved c).In-Some in
    let l = c.loop-message in
    let r = room i in
    let long : length c.put_record.new.buf ≡ length l.buf = ap length c.put_record.ensures ∙ length_placed _ _ _ in (
      long ∙ l.invariant.0,
      rest_entire (before i) (after i) c.in-Some.message (given i) l.invariant.1,
      omega (arith, r.0, long),
      ap (λ (b : List ℕ). placed b (l.to + (5 + length c.in-Some.message.data.now)) (records_in (contents_of c.in-Some.after.now))) c.put_record.ensures
          ∙ sym r.1
          ∙ l.invariant.3,
    )

pub returns : goal.returns
returns c =
    let l = c.loop-message in
    let e = at_last l.rest.now l.invariant.1 (subst (Splits l.rest.now) c.in_default.is c.split_entry.ensures) in
    sym (ap (placed l.buf l.to) (none_left (contents_of l.rest.now) e) ∙ placed_nil l.buf l.to)
    ∙ l.invariant.3
    ∙ ap (λ (k : Contents). placed c.args.buf.now 0 (records_in k)) (sym (as_contents c.args.list.now c.requires.0))
