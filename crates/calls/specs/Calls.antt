-- Document 01, "Demand 3, over a list of calls": the list, on the record in memory.
use Rattle.std.specs.Prelude.{List, [], ◌∷◌, ◌≡◌, ℕ}
use Rattle.refusals.specs.Numbers.{why}
use Rattle.line.specs.Table.{Event as Said}
use Rattle.line.specs.Calls.{History, step_took}
use Rattle.line.specs.Calls.Call.{step, feed}
use Rattle.line.specs.Calls.History.{start, call}
use Rattle.record.specs.View.{parts_of, said}
use Rattle.record.specs.Posts.{FreshPost, StepPost, FeedPost}
use Rattle.record.specs.declared.Answer.{Answer}
use Rattle.record.specs.declared.Reader.{Reader}
use Rattle.record.specs.declared.Fed.{Fed}
use Rattle.record.specs.declared.Fresh.{Fresh}
use Rattle.record.specs.declared.Stepped.{Stepped}

-- the event that an answer is
abbrev pub answered : Answer → Said
answered a = said (parts_of a)

-- a list of calls on one reader: what the contracts of the code say, and nothing else
pub data Trace (m : ℕ) : History → Reader → Type 0 where
  begun : (x : Fresh) → FreshPost m x → why x.refusal ≡ 0 → Trace m start x.reader
  stepped : {h : History} {r : Reader} {b : ℕ} (x : Stepped) → Trace m h r → StepPost r b x
      → Trace m (call h (step b) (step_took (answered x.answer)) (answered x.answer)) x.reader
  fed : {h : History} {r : Reader} {bs : List ℕ} (x : Fed) → Trace m h r → FeedPost r bs x
      → Trace m (call h (feed bs) x.taken (answered x.answer)) x.reader

-- one or more single steps, one after the other: the record before, the bytes, what the last step returned
pub data Steps : Reader → List ℕ → Stepped → Type 0 where
  last : {r : Reader} {b : ℕ} {x : Stepped} → StepPost r b x → Steps r (b ∷ []) x
  more : {r : Reader} {b : ℕ} {bs : List ℕ} {x : Stepped} (y : Stepped) → StepPost r b y → Steps y.reader bs x → Steps r (b ∷ bs) x
