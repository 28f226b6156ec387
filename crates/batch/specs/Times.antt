-- Document 02, Point 10: the bytes that a list takes on the line, and the bits.
use Rattle.std.specs.Prelude.{cond, List, [], ◌∷◌, ◌++◌, ℕ, ◌*◌, ltb, length, Result, Ok, Err}
use Rattle.refusals.specs.declared.Refusal.{Refusal}
use Rattle.refusals.specs.Numbers.{number}
use Rattle.line.specs.Frame.{Mode, mode_of, frame}
use Rattle.batch.specs.declared.LineTime.{LineTime as Given}
use Rattle.batch.specs.Entries.{Entry, Contents, list_of}
use Rattle.batch.specs.Entries.Contents.{entries, refused}

-- the frames of a list's messages, one after the other
abbrev pub frames_of : Mode → List Entry → List ℕ
frames_of m [] = []
frames_of m (x ∷ xs) = frame m x.id x.body ++ frames_of m xs

-- a list's time by the papers' numbers: a refusal's, or 0 with the bytes and the bits
pub record LineTime : Type 0 where
  pub refusal : ℕ
  pub bytes : ℕ
  pub bits : ℕ

-- 11 bits for each byte
abbrev pub time_of : ℕ → ℕ → LineTime
time_of v n = record { refusal = v; bytes = n; bits = 11 * n }

-- the time that a call returned
abbrev pub time : Result Given Refusal → LineTime
time (Ok t) = record { refusal = 0; bytes = t.bytes; bits = t.bits }
time (Err r) = time_of (number r) 0

-- a refusal gives 0 for both numbers
abbrev pub contents_time : Mode → Contents → LineTime
contents_time m (entries xs) = time_of 0 (length (frames_of m xs))
contents_time m (refused v) = time_of v 0

-- 1 of a mode above 1, then the list's refusal
unfoldable pub time_for : ℕ → List ℕ → LineTime
time_for mode s = cond (ltb 1 mode) (time_of 1 0) (contents_time (mode_of mode) (list_of s))
