-- The numbers that move in a slice call, what is left to do after them, and the contracts of the functions that move them.
use Rattle.std.specs.Prelude.{Bool, true, false, cond, List, [], ◌++◌, ◌≡◌, ℕ, ◌+◌, ◌-◌, ◌≤◌, ◌<◌, eqb, ltb, length, take, drop, get_or}
use Rattle.std.proofs.Math.Option.{Option}
use Rattle.stuffing.specs.Stuffing.{DLE}
use Rattle.line.specs.Frame.{mode_of, judge}
use Rattle.line.specs.Table.{Event as Said, pending, verdict}
use Rattle.line.specs.Table.State.{W, F}
use Rattle.line.specs.Table.Event.{nothing, refusal}
use Rattle.line.specs.Record.{Rec, Kept, Place, Result, limit, state_of, update, event_of, stepped, or_stop, walk, PlaceOk}
use Rattle.line.specs.Record.Place.{at as on}
use Rattle.refusals.specs.Numbers.{number}
use Rattle.record.specs.View.{place_of}
use Rattle.record.specs.declared.Head.{Head}
use Rattle.reader.specs.declared.Moving.{Moving}
use Rattle.reader.specs.declared.Act.{Act}
use Rattle.reader.specs.declared.Act.TheVariants.{Quiet, Refused, Reopened, Ended}
use Rattle.reader.specs.declared.Moved.{Moved}

-- no byte from one place up to another is DLE
abbrev pub NoDle : List ℕ → ℕ → ℕ → Type 0
NoDle s from to = (j : ℕ) → from ≤ j → j < to → get_or s j 0 ≡ DLE → ⊥

-- the first DLE from a place on, or n
pub record Skips (s : List ℕ) (from n r : ℕ) : Type 0 where
  pub least : from ≤ r
  pub most : r ≤ n
  pub none : NoDle s from r
  pub stop : r < n → get_or s r 0 ≡ DLE

-- the bytes from a place up to r, none of them DLE, are stored behind the first len
pub record Copied (a a' : List ℕ) (len : ℕ) (s : List ℕ) (from r : ℕ) : Type 0 where
  pub least : from ≤ r
  pub none : NoDle s from r
  pub whole : length a' ≡ 1024
  pub same : take (len + (r - from)) a' ≡ take len a ++ take (r - from) (drop from s)

-- the same, until a DLE, n or 1,024 held
pub record Fills (a a' : List ℕ) (len : ℕ) (s : List ℕ) (from n r : ℕ) : Type 0 where
  pub least : from ≤ r
  pub most : r ≤ n
  pub held : len + (r - from) ≤ 1024
  pub none : NoDle s from r
  pub stop : r < n → (get_or s r 0 ≡ DLE → ⊥) → len + (r - from) ≡ 1024
  pub whole : length a' ≡ 1024
  pub same : take (len + (r - from)) a' ≡ take len a ++ take (r - from) (drop from s)

-- what does not move in a slice call
pub record Base : Type 0 where
  pub accepted : ℕ
  pub refused : ℕ
  pub fed : ℕ
  pub latest : Kept → Option (List ℕ)

abbrev pub base_of : Head → (Kept → Option (List ℕ)) → Base
base_of h l = record { accepted = h.accepted; refused = h.refused; fed = h.fed; latest = l }

-- the moving numbers, one by one
abbrev pub moving_of : ℕ → ℕ → ℕ → ℕ → ℕ → ℕ → ℕ → Moving
moving_of p i x y l o h = record { place = p; id = i; c1 = x; c2 = y; len = l; outside = o; pending = h }

-- the moving numbers of a head: a length that has no meaning is 0
abbrev pub start_of : Head → Moving
start_of h = moving_of h.place h.id h.c1 h.c2 (cond (ltb h.place 2) 0 h.len) h.outside h.pending

abbrev pub place_now : Moving → List ℕ → Place
place_now m a = place_of m.place m.id (take m.len a) m.c1 m.c2

-- the record of the moving numbers over an array, in a mode, with f bytes fed
abbrev pub see : ℕ → Base → Moving → List ℕ → ℕ → Rec
see k z m a f =
    record {
      mode = k;
      place = place_now m a;
      fed = f;
      accepted = z.accepted;
      refused = z.refused;
      outside = m.outside;
      pending = m.pending;
      latest = z.latest;
    }

-- a record and an answer
pub record Out : Type 0 where
  pub after : Rec
  pub event : Said

-- what the table makes of one byte
abbrev pub one : Rec → ℕ → Out
one r b = record { after = stepped r b; event = event_of r b }

-- a frame is closed: the counts, the place then, and the answer
abbrev pub closed_by : ℕ → Base → ℕ → ℕ → Place → ℕ → ℕ → ℕ → Said → Out
closed_by k z a r p o h f e =
    record {
      after =
          record {
            mode = k;
            place = p;
            fed = f;
            accepted = z.accepted + a;
            refused = z.refused + r;
            outside = o;
            pending = h;
            latest = λ i. update i e (z.latest i);
          };
      event = e;
    }

-- an end, by the verdict of questions 9 to 12
abbrev pub ended : Bool → ℕ → ℕ → Base → Moving → List ℕ → ℕ → Out
ended true v k z m a f = closed_by k z m.pending 0 (on W) m.outside 0 f (verdict true v m.id (take m.len a) m.pending)
ended false v k z m a f = closed_by k z 0 m.pending (on W) m.outside 0 f (verdict false v m.id (take m.len a) m.pending)

abbrev pub verdict_of : ℕ → Moving → List ℕ → ℕ
verdict_of k m a = judge (mode_of k) m.id (take m.len a) m.c1 m.c2

-- the record and the answer that an act leaves to make, with f bytes fed
unfoldable pub turned : ℕ → Base → Act → Moving → List ℕ → ℕ → Out
turned k z Quiet m a f = record { after = see k z m a f; event = nothing }
turned k z (Refused v) m a f = closed_by k z 0 m.pending (on W) m.outside 0 f (refusal (number v) m.id m.pending)
turned k z (Reopened v b) m a f =
    closed_by k z 0 (m.pending - 2) (on (F b [])) m.outside 2 f (refusal (number v) m.id (m.pending - 2))
turned k z Ended m a f = ended (eqb (verdict_of k m a) 0) (verdict_of k m a) k z m a f

-- a walk that comes after n bytes
abbrev pub ahead : ℕ → Result → Result
ahead n x = record { after = x.after; answer = x.answer; taken = n + x.taken }

-- after n bytes of s: an event ends the walk; else it goes on over the rest
abbrev pub onward : Out → List ℕ → ℕ → Result
onward o s n =
    or_stop o.event (ahead n (walk o.after (drop n s))) (record { after = o.after; answer = o.event; taken = n })

-- an end after n bytes
abbrev pub result_of : Out → ℕ → Result
result_of o n = record { after = o.after; answer = o.event; taken = n }

-- the pending bytes are those of the open frame
abbrev pub Pends : Moving → List ℕ → Type 0
Pends m a = m.pending ≡ pending (state_of (place_now m a))

-- the place of the numbers is possible in the mode
abbrev pub Sound : ℕ → Moving → List ℕ → Type 0
Sound k m a = PlaceOk (mode_of k) (state_of (place_now m a))

-- numbers that the code can step, at a place of n bytes
pub record Fits (m : Moving) (at n : ℕ) : Type 0 where
  pub known : m.place < 8
  pub short : m.len ≤ 1024
  pub room : m.outside + m.pending + n ≤ limit + at

-- a byte was taken in a place, and `at` is what comes after it
pub record Taken (m : Moving) (at n place : ℕ) : Type 0 where
  pub past : 1 ≤ at
  pub within : at ≤ n
  pub here : m.place ≡ place
  pub fits : Fits m (at - 1) n

-- an array is a record's, and the pending bytes are those of the open frame
pub record Held (m : Moving) (a : List ℕ) : Type 0 where
  pub whole : length a ≡ 1024
  pub pends : Pends m a

-- an event closes two bytes at least
abbrev pub Busy : Act → Moving → Type 0
Busy Quiet m = Unit {0}
Busy (Refused v) m = 2 ≤ m.pending
Busy (Reopened v b) m = 2 ≤ m.pending
Busy Ended m = 2 ≤ m.pending

-- one byte: t is what the table says of the byte b, and `at` is the place after it
pub record Moves (k : ℕ) (m : Moving) (a a' : List ℕ) (b at n : ℕ) (t : Moved) : Type 0 where
  pub fits : Fits t.now at n
  pub tally : t.now.outside + t.now.pending ≡ m.outside + m.pending + 1
  pub busy : Busy t.act t.now
  pub next : t.at ≡ at
  pub says : (z : Base) (f : ℕ) → turned k z t.act t.now a' (f + 1) ≡ one (see k z m a f) b

-- some bytes, one at least: what was left to do is what t leaves to do
pub record Goes (k : ℕ) (m : Moving) (a a' s : List ℕ) (at n : ℕ) (t : Moved) : Type 0 where
  pub fits : Fits t.now t.at n
  pub pends : t.act ≡ Quiet → Pends t.now a'
  pub sound : t.act ≡ Quiet → Sound k m a → Sound k t.now a'
  pub tally : t.now.outside + t.now.pending + at ≡ m.outside + m.pending + t.at
  pub busy : Busy t.act t.now
  pub more : at < t.at
  pub most : t.at ≤ n
  pub whole : length a' ≡ 1024
  pub says : (z : Base) → z.fed + n ≤ limit
      → ahead at (walk (see k z m a (z.fed + at)) (drop at s))
      ≡ onward (turned k z t.act t.now a' (z.fed + t.at)) s t.at

-- all bytes up to n, or up to the first event
pub record Ran (k : ℕ) (m : Moving) (a a' s : List ℕ) (n : ℕ) (t : Moved) : Type 0 where
  pub fits : Fits t.now t.at n
  pub tally : t.now.outside + t.now.pending ≡ m.outside + m.pending + t.at
  pub busy : Busy t.act t.now
  pub most : t.at ≤ n
  pub through : t.act ≡ Quiet → t.at ≡ n
  pub whole : length a' ≡ 1024
  pub says : (z : Base) → z.fed + n ≤ limit
      → walk (see k z m a z.fed) s ≡ onward (turned k z t.act t.now a' (z.fed + t.at)) s t.at

-- the makers' results, whole
abbrev pub stayed : Moving → ℕ → Moved
stayed m at = record { now = m; act = Quiet; at = at }

abbrev pub went : Moving → ℕ → ℕ → Moved
went m p at =
    record {
      now = moving_of p m.id m.c1 m.c2 m.len m.outside (m.pending + 1);
      act = Quiet;
      at = at;
    }

abbrev pub passed : Moving → ℕ → Moved
passed m at =
    record {
      now = moving_of 0 m.id m.c1 m.c2 m.len (m.outside + 2) 0;
      act = Quiet;
      at = at;
    }

abbrev pub opened : Moving → ℕ → ℕ → Moved
opened m b at =
    record {
      now = moving_of 2 b m.c1 m.c2 0 m.outside (m.pending + 1);
      act = Quiet;
      at = at;
    }

abbrev pub shut : Moving → Act → ℕ → Moved
shut m x at =
    record {
      now = moving_of m.place m.id m.c1 m.c2 m.len m.outside (m.pending + 1);
      act = x;
      at = at;
    }
