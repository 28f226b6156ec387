-- Demand 3, of the record in memory: every list of calls on it, by the contracts of the code alone.
use mathlib.Core.Bool.{Bool, true, false}
use mathlib.Core.List.{List}
use mathlib.Core.Path.{◌≡◌, refl, ap}
use Prim.Native.Nat.{ℕ}
use native.Mathlib.Omega.{arith}
use borrow.Author.Tests.{leb-true, leb-false}
use lib.Dec.{leb}
use Rattle.refusals.specs.Numbers.{why}
use Rattle.line.specs.Record.{fresh}
use Rattle.line.specs.Record.Fresh.{made}
use Rattle.line.specs.Record.{StepPost as StepSeen, FeedPost as FeedSeen}
use Rattle.line.specs.Calls.{History, Demand3}
use Rattle.line.specs.Calls.{Trace as Seen}
use Rattle.line.proofs.Demand3.{demand3 as demand3-seen}
use Rattle.record.specs.View.{view}
use Rattle.record.proofs.Answers.{is_said}
use Rattle.record.specs.Posts.{FreshPost}
use Rattle.record.specs.Posts.{FeedPost}
use Rattle.record.specs.Posts.{StepPost}
use Rattle.calls.specs.Calls.{Trace, answered}
use Rattle.calls.specs.Calls.Trace.{begun, stepped, fed}
use Rattle.record.specs.declared.Reader.{Reader}
use Rattle.record.specs.declared.Stepped.{Stepped}
use Rattle.record.specs.declared.Fed.{Fed}
use Rattle.record.specs.declared.Fresh.{Fresh as Made}

-- the contracts, seen through the view
pub step_seen : (r : Reader) (b : ℕ) (x : Stepped) → StepPost r b x → StepSeen (view r) b (view x.reader) (answered x.answer)
step_seen r b x p =
    record {
      one = λ z. let w = p.asked.one z in (ap view w.0, is_said _ _ w.1);
      two = λ z n. let w = p.asked.two z n in (ap view w.0, is_said _ _ w.1);
      three = λ z y o l. let w = p.asked.three z y o l in (ap view w.0, is_said _ _ w.1);
      rest = λ z y o. let w = p.asked.rest z y o in (w.0, is_said _ _ w.1);
    }

pub feed_seen : (r : Reader) (bs : List ℕ) (x : Fed) → FeedPost r bs x
    → FeedSeen (view r) bs (view x.reader) (answered x.answer) x.taken
feed_seen r bs x p =
    record {
      one = λ z. let w = p.asked.one z in (ap view w.0, is_said _ _ w.1, w.2);
      two = λ z n. let w = p.asked.two z n in (ap view w.0, is_said _ _ w.1, w.2);
      three = λ z y o l. let w = p.asked.three z y o l in (ap view w.0, is_said _ _ w.1, w.2);
      rest = λ z y o. let w = p.asked.rest z y o in (w.0, is_said _ _ w.1, w.2);
    }

fresh_seen : (m : ℕ) (x : Made) → FreshPost m x → why x.refusal ≡ 0 → fresh m ≡ made (view x.reader)
fresh_seen m x p e = by (leb m 1) refl
  where
    by : (t : Bool) → leb m 1 ≡ t → fresh m ≡ made (view x.reader)
    by true q = (p.good (leb-true m 1 q)).1
    by false q = absurd (let z : ⊥ = omega (arith, e, p.bad (leb-false m 1 q)) in z)

pub lift : {m : ℕ} {h : History} {r : Reader} → Trace m h r → Seen m h (view r)
lift {m} (begun x p e) = Seen.begun (fresh_seen m x p e)
lift (stepped {r = r} {b = b} x t p) = Seen.stepped {b = b} (lift t) (step_seen r b x p)
lift (fed {r = r} {bs = bs} x t p) = Seen.fed {bs = bs} (lift t) (feed_seen r bs x p)

-- THE THEOREM, on the record in memory
pub demand3 : (m : ℕ) {h : History} {r : Reader} → Trace m h r → Demand3 m h (view r)
demand3 m t = demand3-seen m (lift t)
