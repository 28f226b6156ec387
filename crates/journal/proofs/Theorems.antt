-- Document 02, Point 11: what its text asks to be shown.
use mathlib.Core.Bool.{true, and-eq-true_iff}
use mathlib.Core.List.{List, ◌∷◌, ◌++◌, append_assoc, append-nil}
use mathlib.Core.Path.{◌≡◌, refl, sym, ap, ◌∙◌}
use Prim.Native.Nat.{ℕ, ◌+◌, ◌≤◌, ◌<◌}
use native.Mathlib.Omega.{arith}
use borrow.Author.Tests.{eqb-true}
use lib.Dec.{eqb}
use lib.ListN.{length, take, drop, length-take, length-drop, take-append-drop}
use lib.Seq.{drop-cons, drop-drop, length-take-le}
use Rattle.octets.specs.Bytes.{byte, Bytes}
use Rattle.octets.specs.Delivery.{accepted}
use Rattle.octets.specs.Delivery.{Written}
use Rattle.octets.proofs.DeliveryLaws.{writes, written_judged, written_back}
use Rattle.numbers.specs.Number.{number_of, bytes_of}
use Rattle.numbers.proofs.NumberLaws.{number_in, part_bytes, bytes_number}
use Rattle.batch.specs.Entries.{Entry, list_bytes, Contents, limit, list_of, Each, AcceptableEntry}
use Rattle.batch.specs.Entries.Contents.{entries, refused}
use Rattle.batch.proofs.ContentsLaws.{list_back}
use Rattle.batch.proofs.LayoutLaws.{Holds, list_holds}
use Rattle.journal.specs.Records.{stored, record_of, records_of}
use Rattle.journal.specs.Calls.{Entry as Answer, refusal_in, records_in, journal_written, journal_filled, nothing, marked, length_in, data_in, read_of}
use Rattle.journal.specs.Journal.{Reads, answers_to, taken_by, length_of, Kept, Found}
use Rattle.journal.proofs.RecordLaws.{length_restored, stored_restored, length_records}
use Rattle.journal.proofs.ReadingLaws.{Outcome, outcome}
use Rattle.journal.proofs.ReadingLaws.Outcome.{none, one}
use Rattle.journal.proofs.BackLaws.{reads_before, read_next, reads_all, taken_all}

-- writing a list, and reading its bytes again and again
pub kept : (s b b' : List ℕ) (w : Written) → w ≡ journal_written s b → b' ≡ journal_filled s b → w.refusal ≡ 0 → Kept s b' w
kept s b b' w e f z = by (list_of s) refl (list_holds s)
  where
    z' : (journal_written s b).refusal ≡ 0
    z' = ap (λ (r : Written). r.refusal) (sym e) ∙ z

    back : take w.length b' ≡ records_in (list_of s)
    back = (λ k. take (e k).length (f k)) ∙ written_back (refusal_in (list_of s)) (records_in (list_of s)) b z'

    by : (c : Contents) → list_of s ≡ c → Holds s c → Kept s b' w
    by (refused v) p h = absurd (h (sym (ap refusal_in p) ∙ (written_judged (refusal_in (list_of s)) (records_in (list_of s)) b z').0))
    by (entries xs) p h =
        let bytes : take w.length b' ≡ records_of xs = back ∙ ap records_in p in
        let j = written_judged (refusal_in (list_of s)) (records_in (list_of s)) b z' in
        let n : w.length ≡ length_of xs =
        ap (λ (r : Written). r.length) (e ∙ (writes (refusal_in (list_of s)) (records_in (list_of s)) b j.0 j.1).0)
        ∙ ap (λ c. length (records_in c)) p
        ∙ length_records xs in
        let all : (rs : List Answer) → Reads (take w.length b') rs → rs ≡ answers_to xs (length rs) =
        λ rs m. reads_all xs h.0 (take w.length b') (bytes ∙ sym (append-nil (records_of xs))) rs m in
        record {
          messages = xs;
          holds = p;
          long = n;
          reads = all;
          taken = λ rs m l. ap taken_by (all rs m) ∙ taken_all xs (length rs) l ∙ sym n;
          before = λ t rs m l. reads_before xs h.0 t (take w.length b' ++ t) (ap (λ k. k ++ t) bytes) rs m l;
          next = λ t rs r m l. read_next xs h.0 t (take w.length b' ++ t) (ap (λ k. k ++ t) bytes) rs r m l;
        }

-- acceptable messages, laid out within the limit, are written where there is room for their records
pub all_written : (xs : List Entry) → Each AcceptableEntry xs → length (list_bytes xs) ≤ limit → (b : List ℕ) → length_of xs ≤ length b
    → journal_written (list_bytes xs) b ≡ accepted (length_of xs)
all_written xs a l b r =
    let e = list_back xs a l in
    let n = length_records xs in
    (writes (refusal_in (list_of (list_bytes xs))) (records_in (list_of (list_bytes xs))) b (ap refusal_in e) (omega (arith, n, ap (λ c. length (records_in c)) e))).0
    ∙ ap (λ c. accepted (length (records_in c))) e
    ∙ ap accepted n

-- a refused record takes nothing, and gives no identifier and no data
pub refused_nothing : (s : List ℕ) → ((read_of s).refusal ≡ 0 → ⊥) → read_of s ≡ nothing (read_of s).refusal
refused_nothing s n = by (outcome s)
  where
    by : Outcome s → read_of s ≡ nothing (read_of s).refusal
    by (none v e z) = e ∙ ap (λ (r : Answer). nothing r.refusal) (sym e)
    by (one m l c a e) = absurd (n (ap (λ (r : Answer). r.refusal) e))

-- a read takes no more bytes than there are
pub taken_within : (s : List ℕ) → (read_of s).taken ≤ length s
taken_within s = by (outcome s)
  where
    by : Outcome s → (read_of s).taken ≤ length s
    by (none v e z) = omega (arith, ap (λ (r : Answer). r.taken) e)
    by (one m l c a e) =
        let n = length_restored (byte s 2) (take (length_in s) (drop 5 s)) ∙ length-take (length_in s) (drop 5 s) in
        omega (arith, ap (λ (r : Answer). r.taken) e, n)

-- a message that is read: its record stands at the start of the bytes
module _ (s : List ℕ) (y : Bytes s) (l : 5 ≤ length s) (c : 5 + length_in s ≤ length s) (m : marked s ≡ true) where
  abbrev n : ℕ
  n = length_in s

  abbrev t : List ℕ
  t = take n (drop 5 s)

  t_long : length t ≡ n
  t_long = length-take-le n (drop 5 s) (rw (length-drop 5 s) (omega arith))

  data_long : length (data_in s) ≡ n
  data_long = length_restored (byte s 2) t ∙ t_long

  length_bytes_back : bytes_of 2 n ≡ take 2 (drop 3 s)
  length_bytes_back =
      let p = part_bytes s 3 2 y l in
      ap (bytes_of 2) (number_in s 3 2 l)
      ∙ ap (λ k. bytes_of k (number_of (take 2 (drop 3 s)))) (sym p.0)
      ∙ bytes_number (take 2 (drop 3 s)) p.1

  mark_back : (byte s 0 ≡ 0x4E) × (byte s 1 ≡ 0x56)
  mark_back =
      let b = (and-eq-true_iff (eqb (byte s 0) 0x4E) (eqb (byte s 1) 0x56)).0 m in
      (eqb-true (byte s 0) 0x4E b.0, eqb-true (byte s 1) 0x56 b.1)

  -- the bytes one after the other
  apart : s ≡ byte s 0 ∷ byte s 1 ∷ byte s 2 ∷ (take 2 (drop 3 s) ++ (t ++ drop (5 + n) s))
  apart =
      drop-cons s 0 0 (omega arith)
      ∙ ap (λ k. byte s 0 ∷ k) (drop-cons s 1 0 (omega arith))
      ∙ ap (λ k. byte s 0 ∷ byte s 1 ∷ k) (drop-cons s 2 0 (omega arith))
      ∙ ap (λ k. byte s 0 ∷ byte s 1 ∷ byte s 2 ∷ k)
      (sym (take-append-drop 2 (drop 3 s))
      ∙ ap (λ k. take 2 (drop 3 s) ++ k) (drop-drop 2 3 s ∙ sym (take-append-drop n (drop 5 s)) ∙ ap (λ k. t ++ k) (drop-drop n 5 s)))

  whole : s ≡ record_of (record { id = byte s 2; body = data_in s }) ++ drop (5 + length (data_in s)) s
  whole =
      apart
      ∙ (λ k. mark_back.0 k ∷ mark_back.1 k ∷ byte s 2 ∷ (sym length_bytes_back k ++ (sym (stored_restored (byte s 2) t) k ++ drop (5 + n) s)))
      ∙ ap (λ k. 0x4E ∷ 0x56 ∷ byte s 2 ∷ k) (sym (append_assoc (bytes_of 2 n) (stored (byte s 2) (data_in s)) (drop (5 + n) s)))
      ∙ (λ k. 0x4E ∷ 0x56 ∷ byte s 2 ∷ (bytes_of 2 (sym data_long k) ++ stored (byte s 2) (data_in s) ++ drop (5 + sym data_long k) s))

pub found : (s : List ℕ) → Bytes s → 0 < length s → (read_of s).refusal ≡ 0 → Found s
found s y l z = by (outcome s)
  where
    by : Outcome s → Found s
    by (none v e n) = absurd (omega (arith, n (ap (λ (r : Answer). r.refusal) (sym e) ∙ z)))
    by (one m h c a e) = record {
      message = record { id = byte s 2; body = data_in s };
      acceptable = a;
      answer = e;
      stands = whole s y h c m ∙ ap (λ (x : Answer). record_of (record { id = byte s 2; body = data_in s }) ++ drop x.taken s) (sym e);
    }
