-- Contracts of the private functions of the slice call. Nobody has to believe them: the public contract is proved through them.
use Rattle.std.specs.Prelude.{Bool, true, false, List, ◌≡◌, ℕ, ◌+◌, ◌-◌, ◌≤◌, ◌<◌, length, take, Result, Ok, Err}
use Rattle.std.proofs.Math.Option.{Option}
use Rattle.line.specs.Frame.{Acceptable}
use Rattle.line.specs.Table.Event.{message}
use Rattle.line.specs.Record.{Rec, Kept, limit, update, walk}
use Rattle.latest.specs.Latest.{latest_of}
use Rattle.latest.specs.declared.Latest.{Latest}
use Rattle.record.specs.View.{place_of, first_bytes, view, shown, told}
use Rattle.record.specs.declared.InPlace.{InPlace}
use Rattle.record.specs.declared.Reader.{Reader}
use Rattle.record.specs.declared.Head.{Head}
use Rattle.record.specs.declared.Event.{Event}
use Rattle.record.specs.declared.Event.TheVariants.{Nothing, Message, Refusal as Refused}
use Rattle.refusals.specs.declared.Refusal.{Refusal}
use Rattle.reader.specs.Moving.{Out, Busy, base_of, result_of, turned}
use Rattle.reader.specs.declared.Moving.{Moving}
use Rattle.reader.specs.declared.Moved.{Moved}
use Rattle.reader.specs.declared.Closed.{Closed}

-- the head after a call, but for accepted and refused
abbrev pub head_with : Head → Moving → ℕ → ℕ → ℕ → ℕ → ℕ → Head
head_with h m at p id len pending =
    record {
      mode = h.mode;
      place = p;
      id = id;
      c1 = m.c1;
      c2 = m.c2;
      len = len;
      accepted = h.accepted;
      refused = h.refused;
      outside = m.outside;
      pending = pending;
      fed = h.fed + at;
    }

-- nothing is closed
abbrev pub resumed : Head → Moving → ℕ → Closed
resumed h m at =
    record { head = head_with h m at m.place m.id m.len m.pending; event = Nothing; id = 0; len = 0; closed = 0 }

-- a frame is refused but for its last two bytes, which open another
abbrev pub reopened_by : Head → Moving → ℕ → ℕ → Refusal → Closed
reopened_by h m b at v =
    record {
      head = record { mode = h.mode; place = 2; id = b; c1 = m.c1; c2 = m.c2; len = 0; accepted = h.accepted; refused = h.refused + (m.pending - 2); outside = m.outside; pending = 2; fed = h.fed + at };
      event = Refused v;
      id = m.id;
      len = 0;
      closed = m.pending - 2;
    }

-- a frame that ended is a message
abbrev pub accepted : Head → Moving → ℕ → Closed
accepted h m at =
    record {
      head = record { mode = h.mode; place = 0; id = m.id; c1 = m.c1; c2 = m.c2; len = m.len; accepted = h.accepted + m.pending; refused = h.refused; outside = m.outside; pending = 0; fed = h.fed + at };
      event = Message;
      id = m.id;
      len = m.len;
      closed = m.pending;
    }

-- a frame is refused, whole
abbrev pub dismissed : Head → Moving → ℕ → Refusal → Closed
dismissed h m at v =
    record {
      head = record { mode = h.mode; place = 0; id = m.id; c1 = m.c1; c2 = m.c2; len = m.len; accepted = h.accepted; refused = h.refused + m.pending; outside = m.outside; pending = 0; fed = h.fed + at };
      event = Refused v;
      id = m.id;
      len = 0;
      closed = m.pending;
    }

-- a frame that ended, by its verdict
abbrev pub concluded : Head → Moving → ℕ → Result (Unit {0}) Refusal → Closed
concluded h m at (Ok u) = accepted h m at
concluded h m at (Err v) = dismissed h m at v

-- whether an event is a message
abbrev pub is_message : Event → Bool
is_message Message = true
is_message Nothing = false
is_message (Refused v) = false

-- the latest messages, where a message was given, and where none was
abbrev pub stored_by : Bool → ℕ → List ℕ → (Kept → Option (List ℕ)) → Kept → Option (List ℕ)
stored_by true id d x i = update i (message id d 0) (x i)
stored_by false id d x i = x i

-- a head over an array, with some latest messages
abbrev pub see_head : Head → List ℕ → (Kept → Option (List ℕ)) → Rec
see_head h a x =
    record {
      mode = h.mode;
      place = place_of h.place h.id (first_bytes h.len a) h.c1 h.c2;
      fed = h.fed;
      accepted = h.accepted;
      refused = h.refused;
      outside = h.outside;
      pending = h.pending;
      latest = x;
    }

-- the head, the answer's parts and what is to be kept are those of the record and the answer o
pub record Finishes (l : Kept → Option (List ℕ)) (o : Out) (a : List ℕ) (c : Closed) : Type 0 where
  pub after : see_head c.head a (stored_by (is_message c.event) c.id (take c.len a) l) ≡ o.after
  pub said : record { event = told c.event; id = c.id; body = first_bytes c.len a; closed = c.closed } ≡ shown o.event
  pub short : c.len ≤ 1024
  pub good : is_message c.event ≡ true → Acceptable c.id (take c.len a)

-- what t leaves to do, over the array a, is what the slice s comes to on the record r; and it can be done
pub record Ready (r : Reader) (a s : List ℕ) (t : Moved) : Type 0 where
  pub says : walk (view r) s
      ≡ result_of (turned r.head.mode (base_of r.head (latest_of r.latest)) t.act t.now a (r.head.fed + t.at)) t.at
  pub room : r.head.fed + t.at ≤ limit
  pub sum : r.head.fed + t.at ≡ r.head.accepted + r.head.refused + t.now.outside + t.now.pending
  pub known : t.now.place < 8
  pub short : t.now.len ≤ 1024
  pub busy : Busy t.act t.now
  pub whole : length a ≡ 1024

-- a call that one of questions 1 to 3 refuses
abbrev pub refused_by : Head → Latest → Refusal → InPlace
refused_by h l v = record { head = h; latest = l; event = Refused v; id = 0; len = 0; closed = 0; taken = 0 }

-- a call that took bytes
abbrev pub given_by : Closed → Latest → ℕ → InPlace
given_by o l n =
    record { head = o.head; latest = l; event = o.event; id = o.id; len = o.len; closed = o.closed; taken = n }
