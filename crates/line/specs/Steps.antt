-- Document 01, "The step table": a slice call equals that many single steps. And what it means that a list of calls has a trace.
use Rattle.std.specs.Prelude.{List, [], ◌∷◌, ◌++◌, ◌≡◌, ℕ}
use Rattle.line.specs.Table.{Event}
use Rattle.line.specs.Record.{Rec, StepPost}
use Rattle.line.specs.Calls.{Call, History, Trace}
use Rattle.line.specs.Calls.History.{start, call}

-- one or more single steps, one after the other: the record before, the bytes, the record after, the last answer
pub data Steps : Rec → List ℕ → Rec → Event → Type 0 where
  last : {r r' : Rec} {b : ℕ} {a : Event} → StepPost r b r' a → Steps r (b ∷ []) r' a
  more : {r r' r'' : Rec} {b : ℕ} {bs : List ℕ} {e a : Event} → StepPost r b r' e → Steps r' bs r'' a → Steps r (b ∷ bs) r'' a

-- the calls of a history, in order
abbrev pub calls_of : History → List Call
calls_of start = []
calls_of (call h c n a) = calls_of h ++ (c ∷ [])

-- a trace of these calls
pub record Run (m : ℕ) (cs : List Call) : Type 0 where
  pub history : History
  pub reader : Rec
  pub trace : Trace m history reader
  pub calls : calls_of history ≡ cs
