-- Document 01, questions 1 and 10 to 13 of the writer.
use Rattle.std.specs.Prelude.{cond, List, ℕ, ltb, length}
use Rattle.octets.specs.Delivery.{written_of, filled_of}
use Rattle.octets.specs.Delivery.{Written}
use Rattle.kinds.specs.Kinds.{content}
use Rattle.line.specs.Frame.{mode_of, frame}
use Rattle.line.specs.Table.{capacity}

-- 1 of a mode above 1, then the message's refusal
abbrev pub refusal_of : ℕ → ℕ → List ℕ → ℕ
refusal_of mode id d = cond (ltb 1 mode) 1 (content id d)

-- the answer for a message and a buffer b: its frame is the text; and the buffer afterwards
abbrev pub frame_written : ℕ → ℕ → List ℕ → List ℕ → Written
frame_written mode id d b = written_of (refusal_of mode id d) (frame (mode_of mode) id d) b

abbrev pub frame_filled : ℕ → ℕ → List ℕ → List ℕ → List ℕ
frame_filled mode id d b = filled_of (refusal_of mode id d) (frame (mode_of mode) id d) b

-- the length of a message's frame; 0 of a mode above 1, and of more data than a frame holds
unfoldable pub length_on_line : ℕ → ℕ → List ℕ → ℕ
length_on_line mode id d = cond (ltb 1 mode) 0 (cond (ltb capacity (length d)) 0 (length (frame (mode_of mode) id d)))
