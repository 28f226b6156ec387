-- Document 01, "Proved cases": what listoff and liston print of the bytes that they read, as a definition over the record.
use Rattle.std.specs.Prelude.{cond, List, [], ◌∷◌, ◌++◌, ℕ, suc, ◌-◌, ltb, length}
use Rattle.line.specs.Table.{Event, by_event}
use Rattle.line.specs.Record.{Rec, Fresh, limit, event_of, stepped}
use Rattle.line.specs.Record.Fresh.{made, refused}
use Rattle.listing.specs.Text.{event_line, total_of, longest_event}

-- the line of an event at this offset: nothing yet has none, a message has number 0
abbrev pub line_of : ℕ → Event → List ℕ
line_of offset e = by_event e [] (λ id d n. event_line offset id 0 n) (λ v id n. event_line offset id v n)

-- the listing of bytes: a line for each event, and the total at the end or before the first byte that can't be counted
abbrev pub text : Rec → List ℕ → List ℕ
text r [] = total_of r
text r (b ∷ bs) = cond (ltb r.fed limit) (line_of r.fed (event_of r b) ++ text (stepped r b) bs) (total_of r)

-- by a fresh reader: the number by which that is refused, else 0; and the listing
abbrev pub fresh_refusal : Fresh → ℕ
fresh_refusal (made r) = 0
fresh_refusal (refused v) = v

abbrev pub listing_of : Fresh → List ℕ → List ℕ
listing_of (made r) s = text r s
listing_of (refused v) s = []

-- a part of a listing: the record where it stops, 3 where the next byte can't be counted and else 0, the bytes taken, the lines
pub record Segment : Type 0 where
  pub after : Rec
  pub refusal : ℕ
  pub taken : ℕ
  pub lines : List ℕ

abbrev pub ending : ℕ → Rec → Segment
ending v r = record { after = r; refusal = v; taken = 0; lines = [] }

-- one byte more in front, and its line
abbrev pub byte_ahead : List ℕ → Segment → Segment
byte_ahead l p = record { after = p.after; refusal = p.refusal; taken = suc p.taken; lines = l ++ p.lines }

-- as many bytes as can be listed while there is room for a line of any length
abbrev pub segment : ℕ → Rec → List ℕ → Segment
segment room r [] = ending 0 r
segment room r (b ∷ bs) =
    let l = line_of r.fed (event_of r b) in
    cond (ltb room longest_event) (ending 0 r) (cond (ltb r.fed limit) (byte_ahead l (segment (room - length l) (stepped r b) bs)) (ending 3 r))
