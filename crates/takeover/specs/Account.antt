-- Document 02, Point 5: the account of a record that was taken over goes on.
use Rattle.std.specs.Prelude.{List, ◌≡◌, ℕ, ◌≤◌}
use Rattle.refusals.specs.Numbers.{why}
use Rattle.line.specs.Calls.{History, step_took, Demand3}
use Rattle.line.specs.Calls.Call.{step, feed}
use Rattle.line.specs.Calls.History.{start, call}
use Rattle.record.specs.View.{view}
use Rattle.record.specs.Posts.{StepPost, FeedPost}
use Rattle.record.specs.declared.Reader.{Reader}
use Rattle.record.specs.declared.Fed.{Fed}
use Rattle.record.specs.declared.Stepped.{Stepped}
use Rattle.calls.specs.Calls.{answered}
use Rattle.takeover.specs.declared.Reader32.{Reader32}
use Rattle.takeover.specs.declared.TakenOver.{TakenOver}
use Rattle.takeover.specs.Takeover.{limit32, view32, same_parts, TakeOverPost}

-- a list of calls from the record r, as `Trace` is one from a fresh reader: what the contracts of the code say, and nothing else
pub data From (r : Reader) : History → Reader → Type 0 where
  begun : From r start r
  stepped : {h : History} {q : Reader} {b : ℕ} (x : Stepped) → From r h q → StepPost q b x
      → From r (call h (step b) (step_took (answered x.answer)) (answered x.answer)) x.reader
  fed : {h : History} {q : Reader} {bs : List ℕ} (x : Fed) → From r h q → FeedPost q bs x
      → From r (call h (feed bs) x.taken (answered x.answer)) x.reader

-- the calls of h, then those of k
abbrev pub joined : History → History → History
joined h start = h
joined h (call k c n a) = call (joined h k) c n a

-- taking over gave x, after the calls of h by a reader of mode m
pub record GoesOn (m : ℕ) (h : History) (x : TakenOver) : Type 0 where
  pub taken_over : why x.refusal ≡ 0
  -- every list of calls from the record taken over, joined to those before, has demand 3
  pub account : {k : History} {r : Reader} → From x.reader k r → Demand3 m (joined h k) (view r)

-- each count is one of 32 bits
pub record Narrow (o : Reader32) : Type 0 where
  pub fed : o.head.fed ≤ limit32
  pub accepted : o.head.accepted ≤ limit32
  pub refused : o.head.refused ≤ limit32
  pub outside : o.head.outside ≤ limit32
  pub pending : o.head.pending ≤ limit32

-- an old record with the view of r, which the calls of h left, and with all of its parts; it is taken over
pub record HadOld (m : ℕ) (h : History) (r : Reader) : Type 0 where
  pub old : Reader32
  pub narrow : Narrow old
  pub seen : view r ≡ view32 old
  pub parts : same_parts old ≡ r
  pub goes_on : (x : TakenOver) → TakeOverPost old x → GoesOn m h x
