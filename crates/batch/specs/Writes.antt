-- Document 02, Point 10: the line time of a list is what the writer then produces for it; and the bytes of one message.
use Rattle.std.specs.Prelude.{List, [], ◌∷◌, ◌++◌, ◌↔◌, ◌≡◌, ℕ, ◌+◌, ◌*◌, ◌≤◌, ◌<◌, length, take}
use Rattle.octets.specs.Bytes.{byte}
use Rattle.octets.specs.Delivery.{Written}
use Rattle.line.specs.Frame.{Mode, mode_of, frame}
use Rattle.line.specs.Frame.Mode.{plain, summed}
use Rattle.line.specs.Calls.{Message, frames}
use Rattle.writer.specs.Writing.{frame_written, frame_filled}
use Rattle.batch.specs.Entries.{Entry, list_bytes, list_of, Each, AcceptableEntry}
use Rattle.batch.specs.Entries.Contents.{entries}
use Rattle.batch.specs.Entries.Each.{none, also}
use Rattle.batch.specs.Times.{frames_of, time_for}

-- a call of the writer for an entry, with a buffer that is long enough: its answer, and the buffer afterwards
pub record Write (mode : ℕ) (x : Entry) : Type 0 where
  pub buffer : List ℕ
  pub enough : length (frame (mode_of mode) x.id x.body) ≤ length buffer
  pub answer : Written
  pub after : List ℕ
  -- the writer's contract
  pub answers : answer ≡ frame_written mode x.id x.body buffer
  pub leaves : after ≡ frame_filled mode x.id x.body buffer

-- of a call for each entry: none is refused; the lengths added up; the bytes written, joined
abbrev pub Granted : (mode : ℕ) (xs : List Entry) → Each (Write mode) xs → Type 0
Granted mode [] none = Unit {0}
Granted mode (x ∷ xs) (also w ws) = (w.answer.refusal ≡ 0) × Granted mode xs ws

abbrev pub lengths : (mode : ℕ) (xs : List Entry) → Each (Write mode) xs → ℕ
lengths mode [] none = 0
lengths mode (x ∷ xs) (also w ws) = w.answer.length + lengths mode xs ws

abbrev pub joined : (mode : ℕ) (xs : List Entry) → Each (Write mode) xs → List ℕ
joined mode [] none = []
joined mode (x ∷ xs) (also w ws) = take w.answer.length w.after ++ joined mode xs ws

-- the entries as the messages that demand 3 is about
abbrev pub as_messages : (xs : List Entry) → Each AcceptableEntry xs → List Message
as_messages [] none = []
as_messages (x ∷ xs) (also a more) = record { id = x.id; body = x.body; acceptable = a } ∷ as_messages xs more

-- a list s that is not refused
pub record Timed (mode : ℕ) (s : List ℕ) : Type 0 where
  pub messages : List Entry
  pub holds : list_of s ≡ entries messages
  pub acceptable : Each AcceptableEntry messages
  -- bytes: the length of the frames of its messages, joined, as demand 3 has them on the line
  pub bytes : (time_for mode s).bytes ≡ length (frames_of (mode_of mode) messages)
  pub line : frames_of (mode_of mode) messages ≡ frames (mode_of mode) (as_messages messages acceptable)
  pub bits : (time_for mode s).bits ≡ 11 * (time_for mode s).bytes
  -- the writer, called for each: it refuses none, its lengths add up to bytes, what it wrote is the frames
  pub granted : (ws : Each (Write mode) messages) → Granted mode messages ws
  pub added : (ws : Each (Write mode) messages) → lengths mode messages ws ≡ (time_for mode s).bytes
  pub written : (ws : Each (Write mode) messages) → joined mode messages ws ≡ frames_of (mode_of mode) messages

-- in mode 1 four bytes more
abbrev pub more : Mode → ℕ
more plain = 0
more summed = 4

-- the bytes that one message takes, as a list of its own
abbrev pub bytes_of_one : ℕ → Entry → ℕ
bytes_of_one mode x = (time_for mode (list_bytes (x ∷ []))).bytes

-- of n data bytes: at least n + 4, exactly if none is 10h; at most 2n + 4, exactly if every one is
pub record One (mode : ℕ) (x : Entry) : Type 0 where
  pub least : length x.body + 4 + more (mode_of mode) ≤ bytes_of_one mode x
  pub most : bytes_of_one mode x ≤ 2 * length x.body + 4 + more (mode_of mode)
  pub none_doubled : bytes_of_one mode x ≡ length x.body + 4 + more (mode_of mode)
      ↔ ((i : ℕ) → i < length x.body → byte x.body i ≡ 0x10 → ⊥)
  pub all_doubled : bytes_of_one mode x ≡ 2 * length x.body + 4 + more (mode_of mode)
      ↔ ((i : ℕ) → i < length x.body → byte x.body i ≡ 0x10)
