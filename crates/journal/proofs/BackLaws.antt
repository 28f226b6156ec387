-- Records read back: one at the start of some bytes, and then those of a list.
use mathlib.Core.Bool.{Bool, true, false, not, ◌&&◌}
use mathlib.Core.List.{List, [], ◌∷◌, ◌++◌, append_assoc}
use mathlib.Core.Path.{◌≡◌, refl, sym, ap, ◌∙◌}
use Prim.Native.Nat.{ℕ, zero, suc, ◌+◌, ◌≤◌}
use native.Mathlib.Nat.{zero-add}
use native.Mathlib.Omega.{arith}
use lib.Dec.{ltb}
use lib.ListN.{length, take, drop, length-append}
use lib.Seq.{take_at, drop_at, drop-drop}
use Rattle.numbers.specs.Number.{number_of, bytes_of}
use Rattle.numbers.proofs.NumberLaws.{length_bytes, number_bytes, number_in}
use Rattle.kinds.specs.Kinds.{content}
use Rattle.kinds.proofs.ContentLaws.{content_length}
use Rattle.batch.specs.Entries.{Entry, Each, AcceptableEntry}
use Rattle.batch.specs.Entries.Each.{also}
use Rattle.journal.specs.Records.{stored, restored, record_of, records_of}
use Rattle.journal.specs.Calls.{Entry as Answer, nothing, given, judged, marked, length_in, data_in, read_of}
use Rattle.journal.specs.Journal.{Reads, answers_to, taken_by, length_of}
use Rattle.journal.specs.Journal.Reads.{stop, read}
use Rattle.journal.proofs.RecordLaws.{length_stored, restored_stored, length_record}
use Rattle.journal.proofs.ReadingLaws.{judged_given, read_end, read_record}

module _ (x : Entry) (a : AcceptableEntry x) (t : List ℕ) where
  abbrev n : ℕ
  n = length x.body

  abbrev d : List ℕ
  d = stored x.id x.body

  abbrev s : List ℕ
  s = record_of x ++ t

  long : length s ≡ 5 + n + length t
  long = length-append (record_of x) t ∙ ap (λ k. k + length t) (length_record x)

  after_id : drop 3 s ≡ bytes_of 2 n ++ (d ++ t)
  after_id = append_assoc (bytes_of 2 n) d t

  length_back : length_in s ≡ n
  length_back =
      number_in s 3 2 (omega (arith, long))
      ∙ ap (λ l. number_of (take 2 l)) after_id
      ∙ ap number_of (take_at (bytes_of 2 n) (d ++ t) 2 (length_bytes 2 n))
      ∙ number_bytes 2 n (omega (arith, content_length x.id x.body a))

  after_head : drop 5 s ≡ d ++ t
  after_head = sym (drop-drop 2 3 s) ∙ ap (drop 2) after_id ∙ drop_at (bytes_of 2 n) (d ++ t) 2 (length_bytes 2 n)

  data_back : data_in s ≡ x.body
  data_back =
      (λ k. restored x.id (take (length_back k) (after_head k)))
      ∙ ap (restored x.id) (take_at d t n (length_stored x.id x.body))
      ∙ restored_stored x.id x.body

  no_other : (b : Bool) → b && not (marked s) ≡ false
  no_other true = refl
  no_other false = refl

  record_back : read_of s ≡ given x.id x.body
  record_back =
      read_record s (λ z. omega (arith, long)) (no_other (ltb 1 (length s))) (omega (arith, long)) (omega (arith, long, length_back))
      ∙ ap (λ l. judged (content x.id l) x.id l) data_back
      ∙ judged_given (content x.id x.body) x.id x.body a

  rest_back : drop (5 + n) s ≡ t
  rest_back = drop_at (record_of x) t (5 + n) (length_record x)

-- a read of bytes that begin with a record: its message, and the bytes after it are next
pub read_one : (x : Entry) → AcceptableEntry x → (t s : List ℕ) → s ≡ record_of x ++ t → (r : Answer) → r ≡ read_of s
    → (r ≡ given x.id x.body) × (drop r.taken s ≡ t)
read_one x a t s e r q =
    let g : r ≡ given x.id x.body = q ∙ ap read_of e ∙ record_back x a t in
    (g, (λ k. drop (g k).taken (e k)) ∙ rest_back x a t)

-- the records of a list, and the bytes t after them
next_records : (x : Entry) (xs : List Entry) (t s : List ℕ) → s ≡ records_of (x ∷ xs) ++ t → s ≡ record_of x ++ (records_of xs ++ t)
unfolding records_of
next_records x xs t s e = e ∙ append_assoc (record_of x) (records_of xs) t

no_records : (t s : List ℕ) → s ≡ records_of [] ++ t → s ≡ t
unfolding records_of
no_records t s e = e

-- as many reads as there are messages, or fewer
pub reads_before : (xs : List Entry) → Each AcceptableEntry xs → (t s : List ℕ) → s ≡ records_of xs ++ t
    → (rs : List Answer) → Reads s rs → length rs ≤ length xs → rs ≡ answers_to xs (length rs)
reads_before xs a t s e [] stop l = refl
reads_before [] a t s e (r ∷ rs) (read q more) l = absurd (omega arith)
reads_before (x ∷ xs) (also a rest) t s e (r ∷ rs) (read q more) l =
    let o = read_one x a (records_of xs ++ t) s (next_records x xs t s e) r q in
    λ k. o.0 k ∷ reads_before xs rest t (drop r.taken s) o.1 rs more (omega arith) k

-- the read after them
pub read_next : (xs : List Entry) → Each AcceptableEntry xs → (t s : List ℕ) → s ≡ records_of xs ++ t
    → (rs : List Answer) (r : Answer) → Reads s (rs ++ (r ∷ [])) → length rs ≡ length xs → r ≡ read_of t
read_next [] a t s e [] r (read q more) l = q ∙ ap read_of (no_records t s e)
read_next [] a t s e (y ∷ rs) r m l = absurd (omega arith)
read_next (x ∷ xs) a t s e [] r m l = absurd (omega arith)
read_next (x ∷ xs) (also a rest) t s e (y ∷ rs) r (read q more) l =
    let o = read_one x a (records_of xs ++ t) s (next_records x xs t s e) y q in
    read_next xs rest t (drop y.taken s) o.1 rs r more (omega arith)

-- past the last one
pub reads_end : (s : List ℕ) → s ≡ [] → (rs : List Answer) → Reads s rs → rs ≡ answers_to [] (length rs)
reads_end s e [] stop = refl
reads_end s e (r ∷ rs) (read q more) =
    let g : r ≡ nothing 0 = q ∙ ap read_of e ∙ read_end [] refl in
    λ k. g k ∷ reads_end (drop r.taken s) (λ i. drop (g i).taken (e i)) rs more k

-- to the end and beyond
pub reads_all : (xs : List Entry) → Each AcceptableEntry xs → (s : List ℕ) → s ≡ records_of xs ++ []
    → (rs : List Answer) → Reads s rs → rs ≡ answers_to xs (length rs)
reads_all xs a s e [] stop = refl
reads_all [] a s e (r ∷ rs) m = reads_end s (no_records [] s e) (r ∷ rs) m
reads_all (x ∷ xs) (also a rest) s e (r ∷ rs) (read q more) =
    let o = read_one x a (records_of xs ++ []) s (next_records x xs [] s e) r q in
    λ k. o.0 k ∷ reads_all xs rest (drop r.taken s) o.1 rs more k

-- what they take
pub taken_all : (xs : List Entry) (k : ℕ) → length xs ≤ k → taken_by (answers_to xs k) ≡ length_of xs
taken_all [] zero l = refl
taken_all [] (suc k) l = zero-add (taken_by (answers_to [] k)) ∙ taken_all [] k (omega arith)
taken_all (x ∷ xs) zero l = absurd (omega arith)
taken_all (x ∷ xs) (suc k) l = ap (λ m. 5 + length x.body + m) (taken_all xs k (omega arith))
