-- Document 01, "Demand 3, over a list of calls".
use Rattle.std.specs.Prelude.{cond, List, [], ◌∷◌, ◌++◌, ◌↔◌, ◌≡◌, ℕ, ◌+◌, ◌≤◌, ◌<◌, leb, ltb, length, take}
use Rattle.std.proofs.Math.Option.{none, some}
use Rattle.line.specs.Frame.{Mode, mode_of, frame, Acceptable}
use Rattle.line.specs.Table.{Event, by_event, pending, after, events, skipped, refuses}
use Rattle.line.specs.Table.State.{W}
use Rattle.line.specs.Table.Event.{nothing, message, refusal}
use Rattle.line.specs.Record.{Rec, Kept, id_of, limit, StepPost, FeedPost, fresh}
use Rattle.line.specs.Record.Fresh.{made}

pub data Call : Type 0 where
  step : ℕ → Call
  feed : List ℕ → Call

abbrev pub offered : Call → List ℕ
offered (step b) = b ∷ []
offered (feed bs) = bs

-- the calls so far, the last one outermost: each with the number of bytes taken and the answer
pub data History : Type 0 where
  start : History
  call : History → Call → ℕ → Event → History

-- the bytes taken, in order
abbrev pub taken : History → List ℕ
taken start = []
taken (call h c n a) = taken h ++ take n (offered c)

abbrev pub number : Event → ℕ
number a = by_event a 0 (λ id d n. 0) (λ v id n. v)

-- a step returns no number: it took its byte unless it was refused by 1, 2 or 3
abbrev pub step_took : Event → ℕ
step_took a = by_event a 1 (λ id d n. 1) (λ v id n. cond (leb v 3) 0 1)

-- a list of calls from a fresh reader of mode m, each on the record that the last one returned, refused ones too
pub data Trace (m : ℕ) : History → Rec → Type 0 where
  begun : {r : Rec} → fresh m ≡ made r → Trace m start r
  stepped : {h : History} {r r' : Rec} {b : ℕ} {a : Event} → Trace m h r → StepPost r b r' a
      → Trace m (call h (step b) (step_took a) a) r'
  fed : {h : History} {r r' : Rec} {bs : List ℕ} {a : Event} {n : ℕ} → Trace m h r → FeedPost r bs r' a n
      → Trace m (call h (feed bs) n a) r'

-- what the table with questions 9 to 12, begun fresh, has at the last of these bytes
abbrev pub last : Event → List Event → Event
last e [] = e
last e (x ∷ xs) = last x xs

abbrev pub last_event : Mode → List ℕ → Event
last_event m bs = last nothing (events m W bs)

abbrev pub if_nothing : Event → List ℕ → List ℕ
if_nothing e more = by_event e more (λ id d n. []) (λ v id n. [])

-- of bs, offered after the bytes before: through the first at which the table has an event, or to the end or the limit if sooner
abbrev pub due : Mode → List ℕ → List ℕ → List ℕ
due m before [] = []
due m before (b ∷ bs) =
    cond (ltb (length before) limit) (b ∷ if_nothing (last_event m (before ++ (b ∷ []))) (due m (before ++ (b ∷ [])) bs)) []

-- one call: before, the bytes taken before it; bs, those offered; n, how many it took; a, its answer
pub record Right (m : Mode) (before bs : List ℕ) (n : ℕ) (a : Event) : Type 0 where
  -- no call is refused by 1 or 2
  pub not_1 : number a ≡ 1 → ⊥
  pub not_2 : number a ≡ 2 → ⊥
  -- refusal 3 comes exactly to a step, or a slice that isn't empty, at the limit; no byte is taken
  pub only_full : number a ≡ 3 → (length before ≡ limit) × (0 < length bs)
  pub full : length before ≡ limit → 0 < length bs → (a ≡ refusal 3 0 0) × (n ≡ 0)
  -- any other step takes its byte, any other slice call its bytes through the first event, or to its end or the limit
  pub takes : take n bs ≡ due m before bs
  pub counts : n ≡ length (due m before bs)
  -- a call that takes bytes answers what the table, given only the bytes taken, has at the last one
  pub answers : 0 < n → a ≡ last_event m (before ++ take n bs)
  -- an empty slice gives "nothing yet"
  pub empty : bs ≡ [] → a ≡ nothing

-- every call of a list has P, of the bytes taken before, the bytes offered, how many it took, and the answer
abbrev pub Every : (List ℕ → List ℕ → ℕ → Event → Type 0) → History → Type 0
Every P start = Unit {0}
Every P (call h c n a) = Every P h × P (taken h) (offered c) n a

-- f of every answer, added up
abbrev pub added : (Event → ℕ) → History → ℕ
added f start = 0
added f (call h c n a) = added f h + f a

-- the frame length of a message given
abbrev pub frame_length : Mode → Event → ℕ
frame_length m a = by_event a 0 (λ id d n. length (frame m id d)) (λ v id n. 0)

-- an answer gives a message of this kind
abbrev pub Gives : ℕ → Event → Type 0
Gives id a = by_event a ⊥ (λ i d n. i ≡ id) (λ v i n. ⊥)

-- d is the data of the last message of a kind that an answer gave: a call gave it, and no later call gave one of that kind
pub data LastGiven (id : ℕ) (d : List ℕ) : History → Type 0 where
  here : {h : History} {c : Call} {n k : ℕ} → LastGiven id d (call h c n (message id d k))
  earlier : {h : History} {c : Call} {n : ℕ} {a : Event} → (Gives id a → ⊥) → LastGiven id d h → LastGiven id d (call h c n a)

pub record Message : Type 0 where
  pub id : ℕ
  pub body : List ℕ
  pub acceptable : Acceptable id body

abbrev pub line : Mode → Message → List ℕ
line m x = frame m x.id x.body

abbrev pub frames : Mode → List Message → List ℕ
frames m [] = []
frames m (x ∷ xs) = line m x ++ frames m xs

-- one call, and the frame of x, which is the bytes from number first (from 0) of all those taken
pub record Delivers (m : Mode) (x : Message) (first : ℕ) (before bs : List ℕ) (n : ℕ) (a : Event) : Type 0 where
  -- the call that takes the frame's last byte ends there
  pub ends : length before < first + length (line m x) → first + length (line m x) ≤ length before + n
      → length before + n ≡ first + length (line m x)
  -- and gives the message: its identifier, its data, closed its frame length
  pub gives : length before < first + length (line m x) → first + length (line m x) ≤ length before + n
      → a ≡ message x.id x.body (length (line m x))
  -- a call whose last byte taken lies elsewhere in the frame answers "nothing yet"
  pub elsewhere : 0 < n → first < length before + n → length before + n < first + length (line m x) → a ≡ nothing

pub record Demand3 (m : ℕ) (h : History) (r : Rec) : Type 0 where
  pub calls : Every (Right (mode_of m)) h
  -- fed: the number of bytes taken
  pub fed : r.fed ≡ length (taken h)
  -- accepted: the frame lengths of the messages given, added up
  pub accepted : r.accepted ≡ added (frame_length (mode_of m)) h
  -- refused: the bytes closed by the answers that are refusals, added up
  pub refused : r.refused ≡ added refuses h
  -- outside, hand: what the table, begun fresh and given only the bytes taken, leaves in them
  pub outside : r.outside ≡ skipped (mode_of m) W (taken h)
  pub pending : r.pending ≡ pending (after (mode_of m) W (taken h))
  -- fed is the sum of the other four
  pub sum : r.fed ≡ r.accepted + r.refused + r.outside + r.pending
  -- each standing reading is the last message of its kind that an answer gave, absent exactly when none did
  pub latest : (k : Kept) (d : List ℕ) → r.latest k ≡ some d ↔ LastGiven (id_of k) d h
  pub absent : (k : Kept) → r.latest k ≡ none ↔ Every (λ before bs n a. Gives (id_of k) a → ⊥) h
  -- after any bytes and the frames of acceptable messages, any bytes following: the second and every later one is given
  pub delivers : (noise : List ℕ) (one : Message) (more : List Message) (x : Message) (later : List Message) (rest : List ℕ)
      → taken h ≡ noise ++ (frames (mode_of m) (one ∷ (more ++ (x ∷ later))) ++ rest)
      → Every (Delivers (mode_of m) x (length noise + length (frames (mode_of m) (one ∷ more)))) h
