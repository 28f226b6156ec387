-- From the record in memory to the record as `line` sees it: parts that the place does not use are not seen.
use Rattle.std.specs.Prelude.{cond, List, [], ◌++◌, ℕ, eqb, take, replicate}
use Rattle.line.specs.Table.{Event as Said}
use Rattle.line.specs.Table.Event.{nothing, message, refusal}
use Rattle.line.specs.Table.State.{W, WD, F, FD, C0, C1, E, ED}
use Rattle.line.specs.Record.{Rec, Place}
use Rattle.line.specs.Record.Place.{at, unknown}
use Rattle.latest.specs.Latest.{latest_of}
use Rattle.latest.specs.declared.Latest.{Latest}
use Rattle.record.specs.declared.Head.{Head}
use Rattle.record.specs.declared.Reader.{Reader}
use Rattle.record.specs.declared.Answer.{Answer}
use Rattle.refusals.specs.Numbers.{number}
use Rattle.record.specs.declared.Event.{Event as Held}

-- the places are numbered 0 to 7 in the paper's order
unfoldable pub place_of : ℕ → ℕ → List ℕ → ℕ → ℕ → Place
place_of n id d c1 c2 =
    cond (eqb n 0) (at W)
    (cond (eqb n 1) (at WD)
    (cond (eqb n 2) (at (F id d))
    (cond (eqb n 3) (at (FD id d))
    (cond (eqb n 4) (at (C0 id d))
    (cond (eqb n 5) (at (C1 id d c1)) (cond (eqb n 6) (at (E id d c1 c2)) (cond (eqb n 7) (at (ED id d c1 c2)) (unknown n))))))))

-- n bytes: those of the array, and past its end zeros, so that a length above the array's is seen
unfoldable pub first_bytes : ℕ → List ℕ → List ℕ
first_bytes n body = take n (body ++ replicate n 0)

-- a record of these parts
abbrev pub record_of : Head → Latest → List ℕ → Reader
record_of h l a = record { head = h; latest = l; bytes = a }

abbrev pub view : Reader → Rec
view r =
    let h = r.head in
    record {
      mode = h.mode;
      place = place_of h.place h.id (first_bytes h.len r.bytes) h.c1 h.c2;
      fed = h.fed;
      accepted = h.accepted;
      refused = h.refused;
      outside = h.outside;
      pending = h.pending;
      latest = latest_of r.latest;
    }

-- an event of an answer, by the paper's number
pub data Event : Type 0 where
  Nothing : Event
  Message : Event
  Refusal : ℕ → Event

abbrev pub told : Held → Event
told Held.Nothing = Event.Nothing
told Held.Message = Event.Message
told (Held.Refusal r) = Event.Refusal (number r)

-- the number by which it refuses, 0 where it does not
abbrev pub event_number : Event → ℕ
event_number Event.Nothing = 0
event_number Event.Message = 0
event_number (Event.Refusal v) = v

-- the four parts of an answer: event with number, identifier, data, bytes closed
pub record Parts : Type 0 where
  pub event : Event
  pub id : ℕ
  pub body : List ℕ
  pub closed : ℕ

abbrev pub parts_of : Answer → Parts
parts_of a = record { event = told a.event; id = a.id; body = first_bytes a.len a.bytes; closed = a.closed }

-- what they are for each event of the paper: with "nothing yet" 0 and empty, with a refusal no data
abbrev pub shown : Said → Parts
shown nothing = record { event = Event.Nothing; id = 0; body = []; closed = 0 }
shown (message id d n) = record { event = Event.Message; id = id; body = d; closed = n }
shown (refusal v id n) = record { event = Event.Refusal v; id = id; body = []; closed = n }

-- the event of the paper that these parts are: its number and values in each case of the answer's enum
abbrev pub said_by : Event → ℕ → List ℕ → ℕ → Said
said_by Event.Nothing id d n = nothing
said_by Event.Message id d n = message id d n
said_by (Event.Refusal v) id d n = refusal v id n

abbrev pub said : Parts → Said
said p = said_by p.event p.id p.body p.closed
