-- Laws of writing a list: which refusal comes first, one turn of the pass that measures, and one of the pass that writes.
use Rattle.std.proofs.Common.{◌≡◌, refl, sym, ap, ◌∙◌, subst, Bool, true, false, eqb, ltb, ℕ, ◌+◌, ◌≤◌, ◌<◌, List, [], ◌++◌, length, length-append, arith, Some, None, Ok}
use borrow.Author.Tests.{ltb-true, ltb-false, eqb-true, eqb-false}
use native.Mathlib.Nat.{zero-add, add-zero, add_assoc}
use Rattle.octets.specs.Placing.{placed}
use Rattle.octets.specs.Delivery.{accepted}
use Rattle.octets.specs.Delivery as delivery
use Rattle.octets.specs.Delivery.{Written}
use Rattle.octets.proofs.PlacingLaws.{placed_more}
use Rattle.octets.proofs.DeliveryLaws.{refuses, short, writes}
use Rattle.kinds.proofs.ContentLaws.{content_length}
use Rattle.batch.specs.declared.Message.{Message}
use Rattle.batch.specs.declared.Messages.{Messages}
use Rattle.batch.specs.Entries.{Entry, Header, header_of, Contents, ahead, contents_of, limit, list_of}
use Rattle.batch.specs.Entries.Contents.{entries, refused}
use Rattle.batch.specs.Walks.{left, entry as taken, Splits, Gives}
use Rattle.batch.proofs.ContentsLaws.{at_end, at_refusal, list_long, list_short}
use Rattle.batch.proofs.LayoutLaws.{Holds, contents_holds}
use Rattle.batch.proofs.WalkLaws.{split_none}
use Rattle.journal.specs.Records.{record_of, records_of}
use Rattle.journal.specs.Calls.{refusal_in, records_in, measured, journal_written, journal_filled}
use Rattle.journal.proofs.RecordLaws.{length_record}

-- after n bytes for the entries before
abbrev pub measured_from : ℕ → Contents → Written
measured_from n (entries xs) = accepted (n + length (records_of xs))
measured_from n (refused v) = delivery.refused v

from_none : (c : Contents) → measured c ≡ measured_from 0 c
from_none (entries xs) = ap accepted (sym (zero-add (length (records_of xs))))
from_none (refused v) = refl

from_ahead : (n : ℕ) (x : Entry) (c : Contents) → measured_from n (ahead x c) ≡ measured_from (n + (5 + length x.body)) c
unfolding records_of
from_ahead n x (entries xs) =
    ap (λ k. accepted (n + k)) (length-append (record_of x) (records_of xs))
    ∙ ap accepted (sym (add_assoc n (length (record_of x)) (length (records_of xs))))
    ∙ ap (λ k. accepted (n + k + length (records_of xs))) (length_record x)
from_ahead n x (refused v) = refl

pub measure_start : (c : Contents) → measured c ≡ measured_from 0 c
measure_start c = from_none c

-- the end of the list
none : records_in (entries []) ≡ []
unfolding records_of
none = refl

pub measure_end : (n : ℕ) (c : Contents) → c ≡ entries [] → measured_from n c ≡ accepted n
measure_end n c e = ap (measured_from n) e ∙ ap (λ l. accepted (n + length l)) none ∙ ap accepted (add-zero n)

-- a list that is not refused
abbrev pub Entire : Contents → Type 0
Entire (entries xs) = Unit {0}
Entire (refused v) = ⊥

pub as_contents : (s : List ℕ) → refusal_in (list_of s) ≡ 0 → list_of s ≡ contents_of s
as_contents s z = by (ltb limit (length s)) refl
  where
    by : (t : Bool) → ltb limit (length s) ≡ t → list_of s ≡ contents_of s
    by true p = let e = ap refusal_in (list_long s (ltb-true limit (length s) p)) in absurd (omega (arith, e, z))
    by false p = list_short s (ltb-false limit (length s) p)

pub entire : (s : List ℕ) → refusal_in (contents_of s) ≡ 0 → Entire (contents_of s)
entire s z = go (contents_of s) (contents_holds s) z
  where
    go : (c : Contents) → Holds s c → refusal_in c ≡ 0 → Entire c
    go (entries xs) h e = tt
    go (refused v) h e = h e

-- its first entry, where a byte is left, is not refused
pub unrefused : (s : List ℕ) → Entire (contents_of s) → 0 < length s → (header_of s).refusal ≡ 0
unrefused s c l = by (eqb (header_of s).refusal 0) refl
  where
    by : (t : Bool) → eqb (header_of s).refusal 0 ≡ t → (header_of s).refusal ≡ 0
    by true p = eqb-true (header_of s).refusal 0 p
    by false p = absurd (subst Entire (at_refusal s l (eqb-false (header_of s).refusal 0 p)) c)

-- and where it is not whole, no byte is left
pub at_last : (s : List ℕ) → Entire (contents_of s) → Splits s None → contents_of s ≡ entries []
at_last s c p = by (eqb (length s) 0) refl
  where
    by : (t : Bool) → eqb (length s) 0 ≡ t → contents_of s ≡ entries []
    by true q = at_end s (eqb-true (length s) 0 q)
    by false q =
        let z = unrefused s c (omega (arith, eqb-false (length s) 0 q)) in
        let e = ap (λ (h : Header). h.refusal) (split_none s p) in
        absurd (omega (arith, z, e))

entire_ahead : (x : Entry) (c : Contents) → Entire (ahead x c) → Entire c
entire_ahead x (entries xs) e = tt
entire_ahead x (refused v) e = e

records_ahead : (x : Entry) (c : Contents) → Entire c → records_in (ahead x c) ≡ record_of x ++ records_in c
unfolding records_of
records_ahead x (entries xs) e = refl
records_ahead x (refused v) e = absurd e

pub none_left : (c : Contents) → c ≡ entries [] → records_in c ≡ []
none_left c e = ap records_in e ∙ none

-- a message taken from what is left
module _ (s t : Messages) (m : Message) (g : Gives s (Some (Ok m)) t) where
  abbrev x : Entry
  x = taken m

  -- the pass that measures
  pub measure_taken : (n : ℕ) → measured_from n (left s) ≡ measured_from (n + (5 + length m.data.now)) (left t)
  measure_taken n = ap (measured_from n) g.0 ∙ from_ahead n x (left t)

  -- the pass that writes: it is short, and with its record written at a place of the buffer, what is left goes on after that
  pub small : length m.data.now ≤ 1024
  small = content_length m.id m.data.now g.1

  module _ (c : Entire (left s)) where
    pub rest_entire : Entire (left t)
    rest_entire = entire_ahead x (left t) (subst Entire g.0 c)

    pub written_one : (b : List ℕ) (to : ℕ) → to + length (records_in (left s)) ≤ length b
        → (to + (5 + length m.data.now) + length (records_in (left t)) ≤ length b)
        × (placed b to (records_in (left s)) ≡ placed (placed b to (record_of x)) (to + (5 + length m.data.now)) (records_in (left t)))
    written_one b to l =
        let records : records_in (left s) ≡ record_of x ++ records_in (left t) = ap records_in g.0 ∙ records_ahead x (left t) rest_entire in
        let p : length (record_of x) ≡ 5 + length m.data.now = length_record x in
        let q : length (records_in (left s)) ≡ length (record_of x) + length (records_in (left t)) =
        ap length records ∙ length-append (record_of x) (records_in (left t)) in (
          omega (arith, p, q),
          ap (placed b to) records
              ∙ sym (placed_more b to (record_of x) (records_in (left t)) (omega (arith, q)))
              ∙ ap (λ k. placed (placed b to (record_of x)) (to + k) (records_in (left t))) p,
        )

-- the answer by the tests that the code makes: m is what it has measured
module _ (s b : List ℕ) (m : Written) (e : m ≡ measured (list_of s)) where
  no_refusal : m.refusal ≡ refusal_in (list_of s)
  no_refusal = ap (λ (w : Written). w.refusal) e

  long_as : m.length ≡ length (records_in (list_of s))
  long_as = ap (λ (w : Written). w.length) e

  pub write_refused : (m.refusal ≡ 0 → ⊥) → (m ≡ journal_written s b) × (b ≡ journal_filled s b)
  write_refused n =
      let r = refuses (refusal_in (list_of s)) (records_in (list_of s)) b (λ z. n (no_refusal ∙ z)) in
      (e ∙ go (list_of s) (λ z. n (no_refusal ∙ z)) ∙ sym r.0, sym r.1)
    where
      go : (c : Contents) → (refusal_in c ≡ 0 → ⊥) → measured c ≡ delivery.refused (refusal_in c)
      go (entries xs) f = absurd (f refl)
      go (refused v) f = refl

  pub write_short : m.refusal ≡ 0 → length b < m.length → (delivery.refused 13 ≡ journal_written s b) × (b ≡ journal_filled s b)
  write_short z l =
      let r = short (refusal_in (list_of s)) (records_in (list_of s)) b (sym no_refusal ∙ z) (omega (arith, long_as)) in
      (sym r.0, sym r.1)

  pub write_done : m.refusal ≡ 0 → m.length ≤ length b → (after : List ℕ) → after ≡ placed b 0 (records_in (list_of s))
      → (m ≡ journal_written s b) × (after ≡ journal_filled s b)
  write_done z l after p =
      let r = writes (refusal_in (list_of s)) (records_in (list_of s)) b (sym no_refusal ∙ z) (omega (arith, long_as)) in
      ((λ k. record { refusal = z k; length = long_as k }) ∙ sym r.0, p ∙ sym r.1)
