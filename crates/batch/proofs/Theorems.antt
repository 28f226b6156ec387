-- Document 02, Point 10: what its text asks to be shown.
use mathlib.Core.Bool.{Bool, true, false}
use mathlib.Core.List.{List, [], ◌∷◌, ◌++◌, append-nil}
use mathlib.Core.Path.{◌≡◌, refl, sym, ap, ◌∙◌, subst}
use Prim.Native.Nat.{ℕ, ◌+◌, ◌*◌, ◌≤◌}
use native.Mathlib.Omega.{arith}
use borrow.Author.Tests.{ltb-true, ltb-false}
use lib.Dec.{ltb}
use lib.ListN.{length, take, length-append}
use Rattle.octets.specs.Delivery.{Written}
use Rattle.stuffing.specs.Stuffing.{dles}
use Rattle.stuffing.proofs.StuffingLaws.{dles_le, dles_none, dles_all}
use Rattle.numbers.proofs.NumberLaws.{length_bytes}
use Rattle.kinds.proofs.ContentLaws.{content_length}
use Rattle.line.specs.Frame.{Mode, mode_of, frame}
use Rattle.line.specs.Frame.Mode.{plain, summed}
use Rattle.line.specs.Calls.{frames}
use Rattle.writer.proofs.FrameLength.{frame_plain, frame_summed}
use Rattle.writer.proofs.WritingLaws.{all_written, written_back}
use Rattle.batch.specs.Entries.{Entry, list_bytes, Contents, limit, list_of, Each, AcceptableEntry}
use Rattle.batch.specs.Entries.Contents.{entries, refused}
use Rattle.batch.specs.Entries.Each.{none, also}
use Rattle.batch.specs.Times.{LineTime, frames_of, time_of, contents_time, time_for}
use Rattle.batch.specs.Writes.{Write, Granted, lengths, joined, as_messages, Timed, more, bytes_of_one, One}
use Rattle.batch.proofs.ContentsLaws.{list_back}
use Rattle.batch.proofs.LayoutLaws.{Holds, list_holds, list_acceptable}
use Rattle.batch.proofs.TimeLaws.{time_mode, time_by_list, time_of_list}

-- the writer, called for each entry of a list of acceptable messages
module _ (mode : ℕ) (m : mode ≤ 1) where
  -- one call answers the length of the frame and leaves the frame
  one_written : (x : Entry) → AcceptableEntry x → (w : Write mode x)
      → (w.answer.refusal ≡ 0) × (w.answer.length ≡ length (frame (mode_of mode) x.id x.body))
      × (take w.answer.length w.after ≡ frame (mode_of mode) x.id x.body)
  one_written x a w =
      let e = w.answers ∙ sym (all_written mode x.id x.body w.buffer m a w.enough).0 in
      let z = ap (λ (r : Written). r.refusal) e in
      let b = written_back mode x.id x.body w.buffer (ap (λ (r : Written). r.refusal) (sym w.answers) ∙ z) in
      (z, ap (λ (r : Written). r.length) e, (λ k. take (w.answers k).length (w.leaves k)) ∙ b)

  granted : (xs : List Entry) → Each AcceptableEntry xs → (ws : Each (Write mode) xs) → Granted mode xs ws
  granted [] none none = tt
  granted (x ∷ xs) (also a rest) (also w ws) = ((one_written x a w).0, granted xs rest ws)

  added : (xs : List Entry) → Each AcceptableEntry xs → (ws : Each (Write mode) xs) → lengths mode xs ws ≡ length (frames_of (mode_of mode) xs)
  added [] none none = refl
  added (x ∷ xs) (also a rest) (also w ws) =
      (λ k. (one_written x a w).1 k + added xs rest ws k) ∙ sym (length-append (frame (mode_of mode) x.id x.body) (frames_of (mode_of mode) xs))

  written : (xs : List Entry) → Each AcceptableEntry xs → (ws : Each (Write mode) xs) → joined mode xs ws ≡ frames_of (mode_of mode) xs
  written [] none none = refl
  written (x ∷ xs) (also a rest) (also w ws) = λ k. (one_written x a w).2 k ++ written xs rest ws k

as_messages_lem : (m : Mode) (xs : List Entry) (a : Each AcceptableEntry xs) → frames_of m xs ≡ frames m (as_messages xs a)
as_messages_lem m [] none = refl
as_messages_lem m (x ∷ xs) (also a rest) = ap (λ l. frame m x.id x.body ++ l) (as_messages_lem m xs rest)

-- a list that is not refused takes the bytes of its messages' frames, which are what the writer produces
pub as_written : (mode : ℕ) (s : List ℕ) → (time_for mode s).refusal ≡ 0 → Timed mode s
as_written mode s z = by (ltb 1 mode) refl
  where
    of_list : mode ≤ 1 → (c : Contents) → list_of s ≡ c → Timed mode s
    of_list m (entries xs) e =
        let t = time_of_list mode s m xs e in
        let a = list_acceptable s xs e in
        let n = ap (λ (r : LineTime). r.bytes) t in
        record {
          messages = xs;
          holds = e;
          acceptable = a;
          bytes = n;
          line = as_messages_lem (mode_of mode) xs a;
          bits = ap (λ (r : LineTime). r.bits) t ∙ ap (λ k. 11 * k) (sym n);
          granted = granted mode m xs a;
          added = λ ws. added mode m xs a ws ∙ sym n;
          written = written mode m xs a;
        }
    of_list m (refused v) e =
        let r = ap (λ (x : LineTime). x.refusal) (time_by_list mode s m ∙ ap (contents_time (mode_of mode)) e) in
        absurd (subst (Holds s) e (list_holds s) (sym r ∙ z))

    by : (t : Bool) → ltb 1 mode ≡ t → Timed mode s
    by true p = absurd (omega (arith, ap (λ (r : LineTime). r.refusal) (time_mode mode s (ltb-true 1 mode p))))
    by false p = of_list (ltb-false 1 mode p) (list_of s) refl

-- acceptable messages, laid out within the limit, are not refused and given back
pub laid_out_lem : (mode : ℕ) → mode ≤ 1 → (xs : List Entry) → Each AcceptableEntry xs → length (list_bytes xs) ≤ limit
    → (list_of (list_bytes xs) ≡ entries xs) × (time_for mode (list_bytes xs) ≡ time_of 0 (length (frames_of (mode_of mode) xs)))
laid_out_lem mode m xs a h = let e = list_back xs a h in (e, time_of_list mode (list_bytes xs) m xs e)

-- one message
one_length_lem : (x : Entry) → length (list_bytes (x ∷ [])) ≡ 3 + length x.body
unfolding list_bytes
one_length_lem x = simp (length-append, length_bytes) (omega arith)

by_dles : (m : Mode) (id : ℕ) (d : List ℕ) → length (frame m id d) ≡ length d + dles d + 4 + more m
by_dles plain id d = omega (arith, frame_plain id d)
by_dles summed id d = omega (arith, frame_summed id d)

module _ (mode : ℕ) (m : mode ≤ 1) (x : Entry) (a : AcceptableEntry x) where
  abbrev n : ℕ
  n = length x.body

  counted : bytes_of_one mode x ≡ n + dles x.body + 4 + more (mode_of mode)
  counted =
      let s = laid_out_lem mode m (x ∷ []) (also a none) (omega (arith, one_length_lem x, content_length x.id x.body a)) in
      ap (λ (r : LineTime). r.bytes) s.1
      ∙ ap length (append-nil (frame (mode_of mode) x.id x.body))
      ∙ by_dles (mode_of mode) x.id x.body

  pub one : One mode x
  one =
      record {
        least = omega (arith, counted);
        most = omega (arith, counted, dles_le x.body);
        none_doubled = (λ e. (dles_none x.body).0 (omega (arith, counted)), λ f. omega (arith, counted, (dles_none x.body).1 f));
        all_doubled = (λ e. (dles_all x.body).0 (omega (arith, counted)), λ f. omega (arith, counted, (dles_all x.body).1 f));
      }
