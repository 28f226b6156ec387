-- `count` meets its contract. The loop's invariant is `Tally`; each turn takes a byte or is the last.
use Rattle.std.proofs.Common.{◌-◌, ◌≤◌, arith, length, drop, length-drop, take_all}
use Rattle.record.specs.View.{record_of}
use Rattle.record.specs.Posts.{FeedPost, fed_of}
use Rattle.reader.proofs.Giving.{feeds}
use Rattle.lister.proofs.CountLaws.{tally_within, tally_more, tally_last}
use Rattle.lister.proofs.count.Goals as goal
use Rattle.lister.proofs.count.Goals.{After-feed_in_place-x}

-- what the slice call answered
fed : (c : After-feed_in_place-x)
    → FeedPost (record_of c.loop-x.x.head c.loop-x.x.latest c.loop-x.d) c.loop-x.rest.now (fed_of c.feed_in_place-x.result c.feed_in_place-x.new.d)
fed c =
    feeds (record_of c.loop-x.x.head c.loop-x.x.latest c.loop-x.d) c.feed_in_place-x.new.d c.loop-x.rest.now c.feed_in_place-x.result
    c.loop-x.invariant.whole c.feed_in_place-x.ensures

within : (c : After-feed_in_place-x) → c.feed_in_place-x.result.taken ≤ length c.loop-x.rest.now
within c = tally_within c.loop-x.invariant (fed_of c.feed_in_place-x.result c.feed_in_place-x.new.d) (fed c)

pub returns-then-x-eq0 : goal.returns-then-x-eq0
returns-then-x-eq0 c =
    rw c.begin-x.ensures at
    (tally_last c.loop-x.invariant (fed_of c.feed_in_place-x.result c.feed_in_place-x.new.d) (fed (goal.at.returns-then-x-eq0 c).After-feed_in_place-x) c.if-x-eq0.true)

pub slice_bounds-rest-count : goal.slice_bounds-rest-count
slice_bounds-rest-count c = within (goal.at.slice_bounds-rest-count c).After-feed_in_place-x

pub slice_bounds-rest-start : goal.slice_bounds-rest-start
slice_bounds-rest-start c = omega (arith, within (goal.at.slice_bounds-rest-start c).After-feed_in_place-x)

pub loop-x-preserved : goal.loop-x-preserved
loop-x-preserved c =
    let a = c.feed_in_place-x.new.d in
    let l = c.loop-x.rest.now in
    let k = c.feed_in_place-x.result.taken in
    let t = tally_more c.loop-x.invariant (fed_of c.feed_in_place-x.result a) (fed (goal.at.loop-x-preserved c).After-feed_in_place-x) c.raises-events.result (omega arith)
    (c.feed_in_place-x.ensures.whole c.loop-x.invariant.whole) c.raises-events.ensures.0 c.raises-events.ensures.1 in
    rw (take_all (length l - k) (drop k l) (rw (length-drop k l) (omega arith))) t
