-- Document 02, Point 11: how data is stored; and writing a list and reading it to the end returns that list.
use Rattle.std.specs.Prelude.{List, [], ◌∷◌, ◌++◌, ◌≡◌, ℕ, zero, suc, ◌+◌, ◌-◌, ◌/◌, ◌≤◌, length, take, drop}
use Rattle.octets.specs.Delivery.{Written}
use Rattle.kinds.specs.Kinds.{content}
use Rattle.columns.specs.Columns.{crossed}
use Rattle.batch.specs.Entries.{Entry, list_of, AcceptableEntry}
use Rattle.batch.specs.Entries.Contents.{entries}
use Rattle.journal.specs.Records.{stored, record_of}
use Rattle.journal.specs.Calls.{Entry as Answer, nothing, given, read_of}

-- acceptable data d as it is stored: 56, n and n entries by column, the last behind a header; other kinds as they are
pub record Stored (d : List ℕ) : Type 0 where
  pub of_47 : content 0x47 d ≡ 0 → stored 0x47 d ≡ crossed 56 3 d
  pub of_52 : content 0x52 d ≡ 0 → stored 0x52 d ≡ crossed (length d / 7) 7 d
  pub of_f5 : content 0xF5 d ≡ 0 → stored 0xF5 d ≡ take 27 d ++ crossed ((length d - 27) / 30) 30 (drop 27 d)
  pub of_others : (id : ℕ) → (id ≡ 0x47 → ⊥) → (id ≡ 0x52 → ⊥) → (id ≡ 0xF5 → ⊥) → stored id d ≡ d

-- the answers of reading again and again: each call is given the bytes after those that the one before took
pub data Reads : List ℕ → List Answer → Type 0 where
  stop : {s : List ℕ} → Reads s []
  read : {s : List ℕ} {r : Answer} {rs : List Answer} → r ≡ read_of s → Reads (drop r.taken s) rs → Reads s (r ∷ rs)

-- what so many reads are to answer: each message in order, and then the end
abbrev pub answers_to : List Entry → ℕ → List Answer
answers_to xs zero = []
answers_to [] (suc n) = nothing 0 ∷ answers_to [] n
answers_to (x ∷ xs) (suc n) = given x.id x.body ∷ answers_to xs n

-- the bytes that they took
abbrev pub taken_by : List Answer → ℕ
taken_by [] = 0
taken_by (r ∷ rs) = r.taken + taken_by rs

-- 5 bytes for each message, and its data
abbrev pub length_of : List Entry → ℕ
length_of [] = 0
length_of (x ∷ xs) = 5 + length x.body + length_of xs

-- a list s that was written: w is the answer, b the buffer afterwards
pub record Kept (s b : List ℕ) (w : Written) : Type 0 where
  pub messages : List Entry
  pub holds : list_of s ≡ entries messages
  pub long : w.length ≡ length_of messages
  -- its bytes, read to the end and beyond
  pub reads : (rs : List Answer) → Reads (take w.length b) rs → rs ≡ answers_to messages (length rs)
  pub taken : (rs : List Answer) → Reads (take w.length b) rs → length messages ≤ length rs → taken_by rs ≡ w.length
  -- with any bytes t after them: the reads before are the same, and the next one is of t
  pub before : (t : List ℕ) (rs : List Answer) → Reads (take w.length b ++ t) rs → length rs ≤ length messages
      → rs ≡ answers_to messages (length rs)
  pub next : (t : List ℕ) (rs : List Answer) (r : Answer) → Reads (take w.length b ++ t) (rs ++ (r ∷ []))
      → length rs ≡ length messages → r ≡ read_of t

-- bytes s of which a message was read: its record stands at their start
pub record Found (s : List ℕ) : Type 0 where
  pub message : Entry
  pub acceptable : AcceptableEntry message
  pub answer : read_of s ≡ given message.id message.body
  pub stands : s ≡ record_of message ++ drop (read_of s).taken s
