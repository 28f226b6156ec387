-- Document 01, "The step table" (here: transition table), and what it leaves of a list of bytes.
use Rattle.std.specs.Prelude.{Bool, true, false, cond, List, [], ◌∷◌, ◌++◌, ℕ, ◌+◌, eqb, ltb, length}
use Rattle.stuffing.specs.Stuffing.{stuffed}
use Rattle.line.specs.Frame.{Mode, Class, class_of, judge}
use Rattle.line.specs.Frame.Mode.{plain, summed}
use Rattle.line.specs.Frame.Class.{dle, etx, sum, other}

-- the places of the paper, each with what it uses: identifier, data, c1, c2
pub data State : Type 0 where
  W WD : State
  F FD C0 : ℕ → List ℕ → State
  C1 : ℕ → List ℕ → ℕ → State
  E ED : ℕ → List ℕ → ℕ → ℕ → State

-- nothing yet; a message: identifier, data, bytes closed; a refusal: number, identifier, bytes closed
pub data Event : Type 0 where
  nothing : Event
  message : ℕ → List ℕ → ℕ → Event
  refusal : ℕ → ℕ → ℕ → Event

-- the paper's hand: the bytes of the open frame
abbrev pub pending : State → ℕ
pending W = 0
pending WD = 1
pending (F id d) = length (stuffed d) + 2
pending (FD id d) = length (stuffed d) + 3
pending (C0 id d) = length (stuffed d) + 4
pending (C1 id d c1) = length (stuffed d) + 5
pending (E id d c1 c2) = length (stuffed d) + 6
pending (ED id d c1 c2) = length (stuffed d) + 7

pub record Step : Type 0 where
  pub to : State
  pub event : Event
  pub outside : ℕ

abbrev pub go : State → Step
go s = record { to = s; event = nothing; outside = 0 }

-- adds n to outside
abbrev pub skip : ℕ → Step
skip n = record { to = W; event = nothing; outside = n }

-- a refusal closes n bytes; where a new frame opens, all but its two
abbrev pub refuse : ℕ → ℕ → ℕ → Step
refuse why id n = record { to = W; event = refusal why id n; outside = 0 }

abbrev pub reopen : ℕ → ℕ → ℕ → ℕ → Step
reopen why id n b = record { to = F b []; event = refusal why id n; outside = 0 }

-- a frame of n bytes ends, and questions 9 to 12 gave v
abbrev pub verdict : Bool → ℕ → ℕ → List ℕ → ℕ → Event
verdict true v id d n = message id d n
verdict false v id d n = refusal v id n

abbrev pub ends : ℕ → ℕ → List ℕ → ℕ → Step
ends v id d n = record { to = W; event = verdict (eqb v 0) v id d n; outside = 0 }

-- the data bytes that a frame may have
abbrev pub capacity : ℕ
capacity = 1024

-- b joins the data, or is one too many
abbrev pub join : ℕ → List ℕ → ℕ → ℕ → Step
join id d b n = cond (ltb (length d) capacity) (go (F id (d ++ (b ∷ [])))) (refuse 4 id n)

abbrev pub by_mode : Mode → Step → Step → Step
by_mode plain a b = a
by_mode summed a b = b

-- on 10h, on 03h, on FFh, on any other b
abbrev pub by_class : Class → Step → Step → Step → Step → Step
by_class dle a b c d = a
by_class etx a b c d = b
by_class sum a b c d = c
by_class other a b c d = d

abbrev pub row : Mode → State → Class → ℕ → Step
row m W k b = by_class k (go WD) (skip 1) (skip 1) (skip 1)
row m WD k b = by_class k (skip 2) (skip 2) (skip 2) (go (F b []))
row m (F id d) k b =
    let more = join id d b (pending (F id d) + 1) in
    by_class k (go (FD id d)) more more more
row m (FD id d) k b =
    let n = pending (FD id d) + 1 in
    by_class k (join id d b n) (by_mode m (ends (judge plain id d 0 0) id d n) (refuse 6 id n))
    (by_mode m (refuse 7 id n) (go (C0 id d))) (reopen 5 id (pending (F id d)) b)
row m (C0 id d) k b = go (C1 id d b)
row m (C1 id d c1) k b = go (E id d c1 b)
row m (E id d c1 c2) k b =
    let bad = refuse 8 id (pending (E id d c1 c2) + 1) in
    by_class k (go (ED id d c1 c2)) bad bad bad
row m (ED id d c1 c2) k b =
    let n = pending (ED id d c1 c2) + 1 in
    by_class k (refuse 8 id n) (ends (judge summed id d c1 c2) id d n) (refuse 8 id n) (reopen 8 id (pending (E id d c1 c2)) b)

abbrev pub next : Mode → State → ℕ → Step
next m s b = row m s (class_of b) b

-- after a list of bytes: the state, the event at each byte, the bytes outside
abbrev pub after : Mode → State → List ℕ → State
after m s [] = s
after m s (b ∷ bs) = after m (next m s b).to bs

abbrev pub events : Mode → State → List ℕ → List Event
events m s [] = []
events m s (b ∷ bs) = (next m s b).event ∷ events m (next m s b).to bs

abbrev pub skipped : Mode → State → List ℕ → ℕ
skipped m s [] = 0
skipped m s (b ∷ bs) = (next m s b).outside + skipped m (next m s b).to bs

-- by cases of an event: nothing yet; a message; a refusal
abbrev pub by_event {ℓ} : {A : Type ℓ} → Event → A → (ℕ → List ℕ → ℕ → A) → (ℕ → ℕ → ℕ → A) → A
by_event nothing x f g = x
by_event (message id d n) x f g = f id d n
by_event (refusal v id n) x f g = g v id n

-- f of every event, added up
abbrev pub total : (Event → ℕ) → List Event → ℕ
total f [] = 0
total f (e ∷ es) = f e + total f es

-- the bytes that an event closes as accepted, and as refused
abbrev pub accepts : Event → ℕ
accepts e = by_event e 0 (λ id d n. n) (λ v id n. 0)

abbrev pub refuses : Event → ℕ
refuses e = by_event e 0 (λ id d n. 0) (λ v id n. n)
