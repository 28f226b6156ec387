-- Laws of the time that a list takes: which refusal comes first, and one turn of a pass over the entries.
use Rattle.std.proofs.Common.{◌≡◌, refl, sym, ap, ◌∙◌, cond, ℕ, ◌+◌, ◌*◌, ◌≤◌, ◌<◌, List, [], length, length-append, arith, Some, Ok}
use native.Mathlib.Nat.{zero-add, add-zero, add_assoc}
use borrow.Author.Tests.{lt-ltb, le-ltb}
use Rattle.kinds.proofs.ContentLaws.{content_length}
use Rattle.line.specs.Frame.{Mode, mode_of, frame}
use Rattle.writer.specs.Writing.{length_on_line}
use Rattle.writer.proofs.FrameLength.{frame_most, length_on_line_lem}
use Rattle.batch.specs.declared.Message.{Message}
use Rattle.batch.specs.declared.Messages.{Messages}
use Rattle.batch.specs.Entries.{Entry, Contents, ahead, list_of}
use Rattle.batch.specs.Entries.Contents.{entries, refused}
use Rattle.batch.specs.Times.{LineTime, frames_of, time_of, contents_time, time_for}
use Rattle.batch.specs.Walks.{left, bytes_left, entry, Gives}

-- after n bytes for the entries before
abbrev pub time_from : Mode → ℕ → Contents → LineTime
time_from m n (entries xs) = time_of 0 (n + length (frames_of m xs))
time_from m n (refused v) = time_of v 0

from_none : (m : Mode) (c : Contents) → contents_time m c ≡ time_from m 0 c
from_none m (entries xs) = ap (time_of 0) (sym (zero-add (length (frames_of m xs))))
from_none m (refused v) = refl

from_ahead : (m : Mode) (n : ℕ) (x : Entry) (c : Contents) → time_from m n (ahead x c) ≡ time_from m (n + length (frame m x.id x.body)) c
from_ahead m n x (entries xs) =
    ap (λ k. time_of 0 (n + k)) (length-append (frame m x.id x.body) (frames_of m xs))
    ∙ ap (time_of 0) (sym (add_assoc n (length (frame m x.id x.body)) (length (frames_of m xs))))
from_ahead m n x (refused v) = refl

-- the order of the refusals: 1, then 19 of the whole, then the entries'
module _ (mode : ℕ) (s : List ℕ) where
  pub time_by_list : mode ≤ 1 → time_for mode s ≡ contents_time (mode_of mode) (list_of s)
  unfolding time_for
  time_by_list m = λ k. cond (le-ltb 1 mode m k) (time_of 1 0) (contents_time (mode_of mode) (list_of s))

  pub time_mode : 1 < mode → time_for mode s ≡ time_of 1 0
  unfolding time_for
  time_mode m = λ k. cond (lt-ltb 1 mode m k) (time_of 1 0) (contents_time (mode_of mode) (list_of s))

  pub time_list : mode ≤ 1 → time_for mode s ≡ time_from (mode_of mode) 0 (list_of s)
  time_list m = time_by_list m ∙ from_none (mode_of mode) (list_of s)

  pub time_of_list : mode ≤ 1 → (xs : List Entry) → list_of s ≡ entries xs → time_for mode s ≡ time_of 0 (length (frames_of (mode_of mode) xs))
  time_of_list m xs e = time_by_list m ∙ ap (contents_time (mode_of mode)) e

-- the end of the list
pub time_end : (m : Mode) (n : ℕ) (c : Contents) → c ≡ entries [] → time_from m n c ≡ time_of 0 n
time_end m n c e = ap (time_from m n) e ∙ ap (time_of 0) (add-zero n)

-- a message taken from what is left, and the k bytes of its frame
module _ (mode : ℕ) (s t : Messages) (m : Message) (g : Gives s (Some (Ok m)) t) (o : mode ≤ 1) where
  module _ (k : ℕ) (q : (id : ℕ) → k ≡ length_on_line mode id m.data.now) where
    is_frame : k ≡ length (frame (mode_of mode) m.id m.data.now)
    is_frame = q m.id ∙ length_on_line_lem mode m.id m.data.now o (content_length m.id m.data.now g.1)

    pub turn_most : k + 3 * bytes_left t ≤ 3 * bytes_left s
    turn_most = omega (arith, is_frame, frame_most (mode_of mode) m.id m.data.now, g.2)

    pub turn_taken : (n : ℕ) → time_from (mode_of mode) n (left s) ≡ time_from (mode_of mode) (n + k) (left t)
    turn_taken n =
        ap (time_from (mode_of mode) n) g.0
        ∙ from_ahead (mode_of mode) n (entry m) (left t)
        ∙ ap (λ j. time_from (mode_of mode) (n + j) (left t)) (sym is_frame)
