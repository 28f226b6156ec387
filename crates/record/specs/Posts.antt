-- Document 01, "The step table" and "Questions, in order" (1 to 3): what a fresh reader, a step, a slice call and a slice call in place
-- return and leave, on the record in memory.
use Rattle.std.specs.Prelude.{cond, List, None, ◌≡◌, ℕ, ◌≤◌, ◌<◌, ltb, length, replicate}
use Rattle.refusals.specs.Numbers.{why}
use Rattle.line.specs.Table.Event.{refusal}
use Rattle.line.specs.Record.{Asked, fresh, stepped, event_of, walk}
use Rattle.line.specs.Record.Fresh.{made}
use Rattle.latest.specs.declared.Latest.{Latest}
use Rattle.record.specs.View.{view, parts_of, shown, record_of}
use Rattle.record.specs.declared.Head.{Head}
use Rattle.record.specs.declared.Reader.{Reader}
use Rattle.record.specs.declared.Fresh.{Fresh}
use Rattle.record.specs.declared.Stepped.{Stepped}
use Rattle.record.specs.declared.Fed.{Fed}
use Rattle.record.specs.declared.InPlace.{InPlace}

-- a record of mode m that has taken nothing, whole
abbrev pub blank_record : ℕ → Reader
blank_record m =
    record {
      head = record { mode = m; place = 0; id = 0; c1 = 0; c2 = 0; len = 0; accepted = 0; refused = 0; outside = 0; pending = 0; fed = 0 };
      latest = record { d43 = None; d46 = None; d4a = None; d4b = None; deb = None };
      bytes = replicate 1024 0;
    }

pub record FreshPost (m : ℕ) (x : Fresh) : Type 0 where
  pub good : m ≤ 1 → (why x.refusal ≡ 0) × (fresh m ≡ made (view x.reader))
  pub bad : 1 < m → why x.refusal ≡ 1
  -- the record, whole: of mode 0 or 1 it is the fresh one, else a stand-in, which question 1 refuses
  pub whole : x.reader ≡ blank_record m

-- a single step
pub record StepPost (r : Reader) (b : ℕ) (x : Stepped) : Type 0 where
  pub asked : Asked (view r) (Unit {0}) (λ v. (x.reader ≡ r) × (parts_of x.answer ≡ shown (refusal v 0 0)))
      ((view x.reader ≡ stepped (view r) b) × (parts_of x.answer ≡ shown (event_of (view r) b)))
  -- the answer's array, past its data too, is the record's
  pub array : x.answer.bytes ≡ x.reader.bytes

-- a slice call refused by v: the record as it was, and an answer with nothing in it
abbrev pub Refuses : ℕ → Reader → Fed → Type 0
Refuses v r x = (x.reader ≡ r) × (parts_of x.answer ≡ shown (refusal v 0 0)) × (x.taken ≡ 0)

pub record FeedPost (r : Reader) (bs : List ℕ) (x : Fed) : Type 0 where
  pub asked : Asked (view r) (0 < length bs) (λ v. Refuses v r x)
      ((view x.reader ≡ (walk (view r) bs).after) × (parts_of x.answer ≡ shown (walk (view r) bs).answer) × (x.taken ≡ (walk (view r) bs).taken))
  pub array : x.answer.bytes ≡ x.reader.bytes

-- the call in place, over the array a that it leaves, as the call on a record by value
abbrev pub fed_of : InPlace → List ℕ → Fed
fed_of x a =
    record {
      reader = record_of x.head x.latest a;
      answer = record { event = x.event; id = x.id; len = x.len; bytes = a; closed = x.closed };
      taken = x.taken;
    }

-- a slice call in place: the array is a before the call and a' after it
pub record InPlacePost (h : Head) (l : Latest) (a a' s : List ℕ) (x : InPlace) : Type 0 where
  -- an array of 1,024 bytes is a record's
  pub feeds : length a ≡ 1024 → FeedPost (record_of h l a) s (fed_of x a')
  pub whole : length a ≡ 1024 → length a' ≡ 1024
  -- any other is not: no record is possible with it
  pub other : (length a ≡ 1024 → ⊥) → Refuses (cond (ltb 1 h.mode) 1 2) (record_of h l a) (fed_of x a')
