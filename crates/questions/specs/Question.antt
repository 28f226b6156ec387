-- Questions 1 to 3 as the code asks them. `Asking` of the proofs says that the clauses of question 2 are together `Possible` of `line`.
use Rattle.std.specs.Prelude.{List, ◌≡◌, ℕ, ◌+◌, ◌≤◌, ◌<◌, length, take}
use Rattle.stuffing.specs.Stuffing.{dles}
use Rattle.line.specs.Frame.{class_of}
use Rattle.line.specs.Frame.Class.{other}
use Rattle.line.specs.Record.{Possible, limit}
use Rattle.latest.specs.Latest.{LatestOk}
use Rattle.record.specs.View.{view}
use Rattle.record.specs.declared.Head.{Head}
use Rattle.record.specs.declared.Reader.{Reader}
use Rattle.latest.specs.declared.Latest.{Latest}

-- an identifier that is no service code
pub record Usable (id : ℕ) : Type 0 where
  pub usable : class_of id ≡ other

-- place, identifier and length of an open frame
pub record Opened (h : Head) : Type 0 where
  pub known : h.place < 8
  pub summed : h.mode ≡ 0 → h.place < 4
  pub short : h.len ≤ 1024
  pub usable : class_of h.id ≡ other

-- pending is exactly the bytes of an open frame
abbrev pub Held : Head → List ℕ → Type 0
Held h a = h.pending ≡ h.place + (h.len + dles (take h.len a))

-- the other clauses
pub record Plausible (h : Head) (l : Latest) : Type 0 where
  pub fed : h.fed ≡ h.accepted + h.refused + h.outside + h.pending
  pub latest : LatestOk l
  pub low : h.place < 2 → h.pending ≡ h.place
  pub opened : 2 ≤ h.place → Opened h

-- a record of a reader
pub record Valid (r : Reader) : Type 0 where
  pub whole : length r.bytes ≡ 1024
  pub possible : Possible (view r)

-- the number v of the first question that refuses a call with n bytes, or 0: then all three are yes
pub record Questions (r : Reader) (n v : ℕ) : Type 0 where
  pub one : 1 < r.head.mode → v ≡ 1
  pub two : r.head.mode ≤ 1 → (Valid r → ⊥) → v ≡ 2
  pub three : r.head.mode ≤ 1 → Valid r → 0 < n → limit ≤ r.head.fed → v ≡ 3
  pub rest : r.head.mode ≤ 1 → Valid r → (0 < n → r.head.fed < limit) → v ≡ 0
  pub mode : v ≡ 0 → r.head.mode ≤ 1
  pub valid : v ≡ 0 → Valid r
  pub room : v ≡ 0 → 0 < n → r.head.fed < limit
