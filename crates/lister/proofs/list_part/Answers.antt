-- `list_part` meets its contract. The loop's invariant is `Turn`; each turn takes a byte or is the last.
use Rattle.std.proofs.Common.{◌≡◌, subst, List, ℕ, ◌+◌, ◌-◌, ◌^◌, ◌≤◌, ◌<◌, arith, rules, length, take, drop, length-drop, length-take-le}
use Rattle.record.specs.View.{record_of}
use Rattle.record.specs.Posts.{FeedPost, InPlacePost, fed_of}
use Rattle.reader.proofs.Giving.{feeds}
use Rattle.lister.proofs.FeedLaws.{line_from, offered_in}
use Rattle.lister.proofs.Turns.{turn_none, part_offered, part_placed, turn_within, turn_room, turn_fed, turn_more, turn_last}
use Rattle.lister.proofs.list_part.Goals as goal
use Rattle.lister.proofs.list_part.Goals.{After-feed_in_place-x, After-put_line-to}

-- what the slice call was given, and answered
fed : (c : After-feed_in_place-x)
    → let s = c.args.s.now in
    FeedPost (record_of c.loop-x.x.head c.loop-x.x.latest c.loop-x.d) (offered_in (length c.loop-x.buf - c.loop-x.to) (drop c.loop-x.at s))
    (fed_of c.feed_in_place-x.result c.feed_in_place-x.new.d)
fed c =
    let s = c.args.s.now in
    let at = c.loop-x.at in
    let room = length c.loop-x.buf - c.loop-x.to in
    let x = c.feed_in_place-x.result in
    let a = c.feed_in_place-x.new.d in
    feeds (record_of c.loop-x.x.head c.loop-x.x.latest c.loop-x.d) a (offered_in room (drop at s)) x c.loop-x.invariant.1
    (subst (λ (z : List ℕ). InPlacePost c.loop-x.x.head c.loop-x.x.latest c.loop-x.d a z x)
    (part_offered s at room c.offer-end.result c.offer-end.ensures) c.feed_in_place-x.ensures)

-- the part of the buffer that is lent is what is left of it
lent : (b : List ℕ) (to : ℕ) → length (take (length b - to) (drop to b)) ≡ length b - to
lent b to = let n = length-drop to b in length-take-le (length b - to) (drop to b) (omega arith)

-- the line that was written fits
fits : (c : After-put_line-to)
    → c.loop-x.to + c.put_line-to.result ≤ length c.loop-x.buf
fits c =
    omega (arith, c.put_line-to.ensures.2, lent c.loop-x.buf c.loop-x.to, c.loop-x.invariant.0.room)

pub loop-x-init : goal.loop-x-init
loop-x-init c = (turn_none _ _ _, search rules)

pub returns-then-x-eq0-clause-part : goal.returns-then-x-eq0-clause-part
returns-then-x-eq0-clause-part c =
    rw c.begin-x.ensures at
    (turn_last c.loop-x.invariant.0 (fed_of c.feed_in_place-x.result c.feed_in_place-x.new.d) (fed (goal.at.returns-then-x-eq0-clause-part c).After-feed_in_place-x)
    c.refusal.result c.refusal.ensures c.if-x-eq0.true)

pub overflow_add-at : goal.overflow_add-at
overflow_add-at c =
    let n : length c.args.s.now < 2 ^ 64 = search rules in
    omega (arith, turn_within c.loop-x.invariant.0 (fed_of c.feed_in_place-x.result c.feed_in_place-x.new.d) (fed (goal.at.overflow_add-at c).After-feed_in_place-x))

pub overflow_sub-offset : goal.overflow_sub-offset
overflow_sub-offset c =
    turn_fed c.loop-x.invariant.0 (fed_of c.feed_in_place-x.result c.feed_in_place-x.new.d) (fed (goal.at.overflow_sub-offset c).After-feed_in_place-x) (omega arith)

pub put_line-to-requires : goal.put_line-to-requires
put_line-to-requires c =
    rw (lent c.loop-x.buf c.loop-x.to) (turn_room c.loop-x.invariant.0 (fed_of c.feed_in_place-x.result c.feed_in_place-x.new.d) (fed (goal.at.put_line-to-requires c).After-feed_in_place-x) (omega arith))

pub loop-x-smaller : goal.loop-x-smaller
loop-x-smaller c =
    omega (arith, turn_within c.loop-x.invariant.0 (fed_of c.feed_in_place-x.result c.feed_in_place-x.new.d) (fed (goal.at.loop-x-smaller c).After-feed_in_place-x))

pub loop-x-preserved : goal.loop-x-preserved
loop-x-preserved c =
    let a = c.feed_in_place-x.new.d in
    let y = fed_of c.feed_in_place-x.result a in
    let b = c.loop-x.buf in
    let to = c.loop-x.to in
    let line-fits : to + length (line_from y) ≤ length b = omega (arith, c.put_line-to.ensures.0, fits (goal.at.loop-x-preserved c).After-put_line-to) in (
      turn_more c.loop-x.invariant.0 y (fed (goal.at.loop-x-preserved c).After-feed_in_place-x) _ c.put_line-to.result (omega arith) c.put_line-to.ensures.0 (fits (goal.at.loop-x-preserved c).After-put_line-to)
          (part_placed b (line_from y) c.put_line-to.new.buf to line-fits c.put_line-to.ensures.1),
      c.feed_in_place-x.ensures.whole c.loop-x.invariant.1,
    )
