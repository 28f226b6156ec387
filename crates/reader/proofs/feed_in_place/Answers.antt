-- `reader::feed_in_place` meets its contract: questions 1 to 3, then the bytes, then what they come to.
use Rattle.std.proofs.Common.{◌≡◌, refl, sym, ap, ◌∙◌, take}
use mathlib.Core.Bool.{false}
use Rattle.line.specs.Record.{Kept}
use Rattle.latest.specs.Latest.{latest_of}
use Rattle.latest.specs.declared.Latest.{Latest}
use Rattle.latest.proofs.Storing.{stored_acceptable}
use Rattle.refusals.specs.Numbers.{code}
use Rattle.record.specs.View.{record_of}
use Rattle.record.specs.Posts.{InPlacePost, fed_of}
use Rattle.record.specs.declared.Event.{Event}
use Rattle.record.specs.declared.Event.TheVariants.{Nothing, Message, Refusal}
use Rattle.record.specs.declared.InPlace.{InPlace}
use Rattle.reader.specs.Moving.{result_of}
use Rattle.reader.specs.Closing.{Ready, is_message, stored_by, given_by}
use Rattle.reader.proofs.Beginning.{start_pends, start_sound, start_fits, ready_of}
use Rattle.reader.proofs.Giving.{Comes, out, gives, refuses, answers}
use Rattle.reader.proofs.feed_in_place.Goals as goal
use Rattle.reader.proofs.feed_in_place.Goals.{After-finish-o}

-- an event that is none
no_message : (e : Event) → (e ≡ Message → ⊥) → is_message e ≡ false
no_message Nothing n = refl
no_message Message n = absurd (n refl)
no_message (Refusal v) n = refl

-- past questions 1 to 3
granted : (o : After-finish-o) → code o.question.result ≡ 0
granted o = ap (λ x. code x) o.in_default.is

-- what the bytes come to, and the record and the array afterwards
ready : (o : After-finish-o) → Ready (record_of o.args.h o.args.l o.args.d.now) o.run-t.new.d o.args.s.now o.run-t.result
ready o =
    let r = record_of o.args.h o.args.l o.args.d.now in
    let n = o.span-n in
    let v = o.question.ensures.valid (granted o) in
    let s = o.args.s.now in
    ready_of r v.whole v.possible s n.result o.run-t.result o.run-t.new.d
    (rw o.start-m.ensures at o.run-t.ensures)
    n.ensures.1 n.ensures.2

-- what is returned, once it is what the act comes to
given : (o : After-finish-o) (x : InPlace)
    → Comes (result_of (out (record_of o.args.h o.args.l o.run-t.new.d) o.run-t.result) o.run-t.result.at) (fed_of x o.run-t.new.d)
    → InPlacePost o.args.h o.args.l o.args.d.now o.run-t.new.d o.args.s.now x
given o x c =
    answers (record_of o.args.h o.args.l o.args.d.now) o.args.s.now (code o.question.result) o.question.ensures (granted o) o.run-t.new.d x
    (ready o).whole (rw (ready o).says c)

-- what is returned: the answer, with the latest messages as they are then
gave : (o : After-finish-o) (x : InPlace) (l : Latest) → x ≡ given_by o.finish-o.result l o.run-t.result.at
    → ((j : Kept) → latest_of l j ≡ stored_by (is_message o.finish-o.result.event) o.finish-o.result.id (take o.finish-o.result.len o.run-t.new.d) (latest_of o.args.l) j)
    → InPlacePost o.args.h o.args.l o.args.d.now o.run-t.new.d o.args.s.now x
gave o x l e w =
    rw e
    (given o (given_by o.finish-o.result l o.run-t.result.at)
    (gives (record_of o.args.h o.args.l o.run-t.new.d) o.run-t.result o.finish-o.result l (o.finish-o.ensures (latest_of o.args.l)) w))

pub returns-in-Err : goal.returns-in-Err
returns-in-Err c =
    rw c.refuse.ensures
    (refuses (record_of c.args.h c.args.l c.args.d.now) c.args.s.now (code c.question.result) c.question.ensures
    c.in-Err.refusal (sym (ap (λ x. code x) c.in-Err.is)))

pub run-t-requires-clause-held : goal.run-t-requires-clause-held
run-t-requires-clause-held c =
    let v = c.question.ensures.valid (ap (λ x. code x) c.in_default.is) in
    rw c.start-m.ensures (record { whole = v.whole; pends = start_pends (record_of c.args.h c.args.l c.args.d.now) v.whole v.possible })

pub run-t-requires-clause-fits : goal.run-t-requires-clause-fits
run-t-requires-clause-fits c =
    let r = record_of c.args.h c.args.l c.args.d.now in
    let v = c.question.ensures.valid (ap (λ x. code x) c.in_default.is) in
    rw c.start-m.ensures (start_fits r v.whole v.possible c.span-n.result c.span-n.ensures.1, start_sound r v.whole v.possible)

pub returns-in-Message : goal.returns-in-Message
returns-in-Message c =
    let f = c.finish-o.result in
    let l = latest_of c.args.l in
    let d = take f.len c.run-t.new.d in
    gave (goal.at.returns-in-Message c).After-finish-o _ c.store.result c.give.ensures
    (λ j.
    c.store.ensures j
    ∙ stored_acceptable f.id d l ((c.finish-o.ensures l).good (ap is_message c.in-Message.is)) j
    ∙ ap (λ u. stored_by (is_message u) f.id d l j) (sym c.in-Message.is))

pub returns : goal.returns
returns c =
    let f = c.finish-o.result in
    let l = latest_of c.args.l in
    gave (goal.at.returns c).After-finish-o _ c.args.l c.give-2.ensures
    (λ j. ap (λ u. stored_by u f.id (take f.len c.run-t.new.d) l j) (sym (no_message f.event c.in_default-event.not-Message)))
