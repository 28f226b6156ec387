-- A slice call that took n bytes leaves what n single steps leave: on the record in memory, by the contracts of the code alone.
use mathlib.Core.Bool.{Bool, true, false, cond}
use mathlib.Core.List.{List, [], ◌∷◌}
use mathlib.Core.Path.{◌≡◌, refl, sym, ap, ◌∙◌, subst⁻¹}
use Prim.Native.Nat.{ℕ, ◌+◌, ◌≤◌, ◌<◌}
use native.Mathlib.Omega.{arith}
use borrow.Author.Tests.{ltb-true}
use lib.Dec.{ltb}
use lib.ListN.{length, take}
use lib.Seq.{length-take-le}
use Rattle.line.specs.Table.{Event as Said}
use Rattle.line.specs.Table.Event.{nothing, message, refusal}
use Rattle.line.specs.Record.{Rec, Possible, Result, limit, event_of, stepped, or_stop, one_more, walk}
use Rattle.line.specs.Steps.{Steps as Seen}
use Rattle.line.proofs.Mirror.{keeps_possible}
use Rattle.line.proofs.SliceSteps.{slice_steps_only, walk_fits}
use Rattle.record.specs.View.{view, parts_of, shown}
use Rattle.record.proofs.Answers.{are_shown}
use Rattle.record.specs.Posts.{FeedPost}
use Rattle.reader.proofs.Taking.{low, possible, room, passed}
use Rattle.calls.specs.Calls.{Steps, answered}
use Rattle.calls.specs.Calls.Steps.{last, more}
use Rattle.record.specs.declared.Reader.{Reader}
use Rattle.record.specs.declared.Stepped.{Stepped}
use Rattle.record.specs.declared.Fed.{Fed}
use Rattle.calls.proofs.Demand3.{step_seen, feed_seen}

-- a walk stays within the limit
walk_limit : (bs : List ℕ) (v : Rec) → v.fed ≤ limit → v.fed + (walk v bs).taken ≤ limit
walk_limit [] v h = omega arith
walk_limit (b ∷ bs) v h = by (ltb v.fed limit) refl (event_of v b) (λ l. walk_limit bs (stepped v b) l)
  where
    x : Result
    x = walk (stepped v b) bs

    by : (t : Bool) → ltb v.fed limit ≡ t → (e : Said) → (v.fed + 1 ≤ limit → v.fed + 1 + x.taken ≤ limit)
        → v.fed
        + (cond t (or_stop e (one_more x) (record { after = stepped v b; answer = e; taken = 1 }))
        (record { after = v; answer = nothing; taken = 0 })).taken ≤ limit
    by false q e ih = omega arith
    by true q nothing ih = let l = ltb-true v.fed limit q in omega (arith, ih (omega arith))
    by true q (message i d n) ih = omega (arith, ltb-true v.fed limit q)
    by true q (refusal w i n) ih = omega (arith, ltb-true v.fed limit q)

-- single steps, seen through the view
record Lifted (r : Reader) (bs : List ℕ) (y : Stepped) : Type 0 where
  parts : parts_of y.answer ≡ shown (answered y.answer)
  steps : Seen (view r) bs (view y.reader) (answered y.answer)

lift_steps : {r : Reader} {bs : List ℕ} {y : Stepped} → Steps r bs y → r.head.mode ≤ 1 → Possible (view r) → r.head.fed + length bs ≤ limit
    → Lifted r bs y
lift_steps (last {r = r} {b = b} {x = x} p) g q l =
    record { parts = are_shown _ (event_of (view r) b) (p.asked.rest g q (λ o. omega arith)).1; steps = Seen.last (step_seen r b x p) }
lift_steps (more {r = r} {b = b} {bs = bs} {x = x} y p s) g q l =
    let w = p.asked.rest g q (λ o. omega arith) in
    let u = lift_steps s (rw (ap (λ (v : Rec). v.mode) w.0) g) (subst⁻¹ Possible w.0 (keeps_possible (view r) b q))
    (let f : y.reader.head.fed ≡ r.head.fed + 1 = ap (λ (v : Rec). v.fed) w.0 in omega arith) in
    record { parts = u.parts; steps = Seen.more (step_seen r b y p) u.steps }

pub slice_steps : (r : Reader) (bs : List ℕ) (x : Fed) → FeedPost r bs x → 0 < x.taken → (y : Stepped) → Steps r (take x.taken bs) y
    → (view y.reader ≡ view x.reader) × (parts_of y.answer ≡ parts_of x.answer)
slice_steps r bs x q h y s =
    let w = passed r bs x q h in
    let fit = walk_fits bs (view r) in
    let some : 0 < length bs = omega (arith, w.2) in
    let n : length (take x.taken bs) ≡ x.taken = length-take-le x.taken bs (omega (arith, w.2)) in
    let u = lift_steps s (low r bs x q h) (possible r bs x q h)
    (omega (arith, walk_limit bs (view r) (omega (arith, room r bs x q h some)), w.2)) in
    let v = slice_steps_only (view r) bs (feed_seen r bs x q) h u.steps in
    (v.0, u.parts ∙ ap shown v.1 ∙ sym (are_shown _ (walk (view r) bs).answer w.1))
