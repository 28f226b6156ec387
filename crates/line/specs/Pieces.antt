-- Where each byte lies: bytes, read from fresh, cut into labelled pieces in order.
use Rattle.std.specs.Prelude.{cond, List, [], ◌∷◌, ◌++◌, map, ◌≡◌, ℕ, ◌+◌, eqb, length, take, drop}
use Rattle.line.specs.Frame.{Mode, frame}
use Rattle.line.specs.Table.{State, Event, Step, by_event, next, accepts, refuses, events}
use Rattle.line.specs.Table.State.{W}
use Rattle.line.specs.Table.Event.{message, refusal}
use Rattle.line.specs.Record.{Rec}
use Rattle.line.specs.Calls.{Message, line, frames}

-- bytes outside; a message accepted: identifier, data, bytes; a frame refused: number, identifier, bytes; the pending bytes
pub data Piece : Type 0 where
  outside : List ℕ → Piece
  accepted : ℕ → List ℕ → List ℕ → Piece
  refused : ℕ → ℕ → List ℕ → Piece
  pending : List ℕ → Piece

-- by cases of a piece, in that order
abbrev pub by_piece {ℓ} : {A : Type ℓ} → Piece → (List ℕ → A) → (ℕ → List ℕ → List ℕ → A) → (ℕ → ℕ → List ℕ → A) → (List ℕ → A) → A
by_piece (outside p) f g h k = f p
by_piece (accepted id d p) f g h k = g id d p
by_piece (refused v id p) f g h k = h v id p
by_piece (pending p) f g h k = k p

abbrev pub bytes_in : Piece → List ℕ
bytes_in x = by_piece x (λ p. p) (λ id d p. p) (λ v id p. p) (λ p. p)

abbrev pub concatenated : List Piece → List ℕ
concatenated [] = []
concatenated (x ∷ xs) = bytes_in x ++ concatenated xs

-- how many bytes a step closes
abbrev pub closes : Step → ℕ
closes t = accepts t.event + refuses t.event + t.outside

-- of the bytes held, the last one read among them, the piece that a step closes, if any
abbrev pub piece_of : Step → List ℕ → List Piece
piece_of t held =
    by_event t.event (cond (eqb t.outside 0) [] (outside (take (closes t) held) ∷ []))
    (λ id d n. accepted id d (take (closes t) held) ∷ [])
    (λ v id n. refused v id (take (closes t) held) ∷ [])

-- the pieces closed by a list of bytes, and the bytes then held
abbrev pub closed : Mode → State → List ℕ → List ℕ → List Piece
closed m s held [] = []
closed m s held (b ∷ bs) =
    let t = next m s b in
    piece_of t (held ++ (b ∷ [])) ++ closed m t.to (drop (closes t) (held ++ (b ∷ []))) bs

abbrev pub held_after : Mode → State → List ℕ → List ℕ → List ℕ
held_after m s held [] = held
held_after m s held (b ∷ bs) = let t = next m s b in held_after m t.to (drop (closes t) (held ++ (b ∷ []))) bs

-- all pieces, last the pending one
abbrev pub pieces : Mode → List ℕ → List Piece
pieces m bs = closed m W [] bs ++ (pending (held_after m W [] bs) ∷ [])

-- the event that a piece is, closing its bytes; the events of a list of bytes, but for "nothing yet"
abbrev pub event_in : Piece → List Event
event_in x = by_piece x (λ p. []) (λ id d p. message id d (length p) ∷ []) (λ v id p. refusal v id (length p) ∷ []) (λ p. [])

abbrev pub events_in : List Piece → List Event
events_in [] = []
events_in (x ∷ xs) = event_in x ++ events_in xs

abbrev pub raised : List Event → List Event
raised [] = []
raised (e ∷ es) = by_event e [] (λ id d n. e ∷ []) (λ v id n. e ∷ []) ++ raised es

-- an accepted piece is the frame of its message
abbrev pub Framed : Mode → Piece → Type 0
Framed m x = by_piece x (λ p. Unit {0}) (λ id d p. p ≡ frame m id d) (λ v id p. Unit {0}) (λ p. Unit {0})

abbrev pub AllFramed : Mode → List Piece → Type 0
AllFramed m [] = Unit {0}
AllFramed m (x ∷ xs) = Framed m x × AllFramed m xs

-- the length of a piece under one label, 0 under another; the lengths added up
abbrev pub outside_in : Piece → ℕ
outside_in x = by_piece x (λ p. length p) (λ id d p. 0) (λ v id p. 0) (λ p. 0)

abbrev pub accepted_in : Piece → ℕ
accepted_in x = by_piece x (λ p. 0) (λ id d p. length p) (λ v id p. 0) (λ p. 0)

abbrev pub refused_in : Piece → ℕ
refused_in x = by_piece x (λ p. 0) (λ id d p. 0) (λ v id p. length p) (λ p. 0)

abbrev pub pending_in : Piece → ℕ
pending_in x = by_piece x (λ p. 0) (λ id d p. 0) (λ v id p. 0) (λ p. length p)

abbrev pub sum_of : (Piece → ℕ) → List Piece → ℕ
sum_of f [] = 0
sum_of f (x ∷ xs) = f x + sum_of f xs

-- what holds of the pieces of any bytes
pub record Cut (m : Mode) (bs : List ℕ) : Type 0 where
  -- the pieces concatenated are exactly the bytes: every byte lies in exactly one
  pub joins : concatenated (pieces m bs) ≡ bs
  -- the accepted and refused pieces, in order, are the events, each with as many bytes as its event closed
  pub events : events_in (pieces m bs) ≡ raised (events m W bs)
  -- an accepted piece's bytes are the frame of its message
  pub framed : AllFramed m (pieces m bs)

-- the lengths by label are the counts of the record that took the bytes
pub record Counted (xs : List Piece) (r : Rec) : Type 0 where
  pub accepted : sum_of accepted_in xs ≡ r.accepted
  pub refused : sum_of refused_in xs ≡ r.refused
  pub outside : sum_of outside_in xs ≡ r.outside
  pub pending : sum_of pending_in xs ≡ r.pending

-- between two bursts, every message after the first is a piece of its own, right after the one before it
abbrev pub whole : Mode → Message → Piece
whole m x = accepted x.id x.body (line m x)

pub record Between (m : Mode) (noise : List ℕ) (one : Message) (more : List Message) (rest : List ℕ) : Type 0 where
  pub front : List Piece
  pub reaches : concatenated front ≡ noise ++ line m one
  pub follows : pieces m (noise ++ (frames m (one ∷ more) ++ rest)) ≡ front ++ (map (whole m) more ++ pieces m rest)
