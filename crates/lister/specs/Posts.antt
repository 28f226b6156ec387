-- What the calls return and leave.
use Rattle.std.specs.Prelude.{Bool, cond, List, [], ◌++◌, ◌≡◌, ℕ, ◌≤◌, length, take, drop}
use Rattle.refusals.specs.Numbers.{why}
use Rattle.octets.specs.Placing.{placed}
use Rattle.octets.specs.Delivery.{Counts}
use Rattle.line.specs.Record.{Asked, Possible}
use Rattle.record.specs.declared.Reader.{Reader}
use Rattle.record.specs.View.{Event}
use Rattle.record.specs.View.Event.{Nothing, Message, Refusal}
use Rattle.record.specs.View.{view}
use Rattle.record.specs.declared.Event.TheVariants as Held
use Rattle.record.specs.declared.InPlace.{InPlace}
use Rattle.listing.specs.Text.{event_line, total_of}
use Rattle.lister.specs.declared.Part.{Part}
use Rattle.lister.specs.Listing.{Segment, segment}
use Rattle.lister.specs.Counting.{event_count}

-- a part of a listing that is this segment, and the buffer before and after it
abbrev pub PartIs : Segment → Part → List ℕ → List ℕ → Type 0
PartIs p x b b' =
    (view x.reader ≡ p.after)
    × (why x.refusal ≡ p.refusal)
    × (x.taken ≡ p.taken)
    × (x.length ≡ length p.lines)
    × (b' ≡ placed b 0 p.lines)

-- a part of a listing: refused by 1 or 2, nothing is listed, and else a segment. Of question 3 the segment says where it stops
abbrev pub PartPost : Reader → List ℕ → List ℕ → Part → List ℕ → Type 0
PartPost r s b x b' =
    Asked (view r) ⊥ (λ v. (x.reader ≡ r) × (why x.refusal ≡ v) × (x.taken ≡ 0) × (x.length ≡ 0) × (b' ≡ b))
    (PartIs (segment (length b) (view r) s) x b b')

-- how many events the bytes raise: refused by 1 or 2, none
abbrev pub CountPost : Reader → List ℕ → ℕ → Type 0
CountPost r s n = Asked (view r) ⊥ (λ v. n ≡ 0) (n ≡ event_count (view r) s)

-- what a program prints that lists in parts, as its bytes come: s is offered, m is yet to come. The lines of each part; and the
-- total, once there is nothing to come or the next byte can't be counted
pub data Prints : Reader → List ℕ → List ℕ → Type 0 where
  ended : {r : Reader} → Prints r [] (total_of (view r))
  full : {r : Reader} (s m b : List ℕ) (x : Part) (b' : List ℕ) → PartPost r s b x b' → Counts x.length b' → why x.refusal ≡ 3
      → Prints r (s ++ m) (take x.length b' ++ total_of (view x.reader))
  part : {r : Reader} {out : List ℕ} (s m b : List ℕ) (x : Part) (b' : List ℕ) → PartPost r s b x b' → Counts x.length b'
      → Prints x.reader (drop x.taken (s ++ m)) out → Prints r (s ++ m) (take x.length b' ++ out)

-- of private functions: nothing is taken yet
abbrev pub untaken : Reader → InPlace
untaken r = record { head = r.head; latest = r.latest; event = Held.Nothing; id = 0; len = 0; closed = 0; taken = 0 }

-- a reader that questions 1 and 2 let pass
abbrev pub Good : Reader → Type 0
Good r = (r.head.mode ≤ 1) × Possible (view r)

-- the line of an event in memory
abbrev pub line_shown : ℕ → Event → ℕ → ℕ → List ℕ
line_shown offset Nothing id n = []
line_shown offset Message id n = event_line offset id 0 n
line_shown offset (Refusal v) id n = event_line offset id v n

-- bytes that are put into a buffer, if they are to be
abbrev pub placed_if : Bool → List ℕ → ℕ → List ℕ → List ℕ
placed_if write b at t = cond write (placed b at t) b
