-- Document 01, "The step table" (the record) and "Questions, in order" (1 to 3): what a fresh reader, a step and a slice call
-- return and leave.
use Rattle.std.specs.Prelude.{Bool, true, false, cond, List, [], ◌∷◌, ◌≡◌, ℕ, suc, ◌+◌, ◌≤◌, ◌<◌, eqb, ltb, leb, length}
use Rattle.std.proofs.Math.Option.{Option, none, some}
use Rattle.line.specs.Frame.{Mode, mode_of, class_of, Acceptable}
use Rattle.line.specs.Frame.Mode.{summed}
use Rattle.line.specs.Frame.Class.{other}
use Rattle.line.specs.Table.{State, Event, capacity, by_event, next, pending, accepts, refuses}
use Rattle.line.specs.Table.State.{W, WD, F, FD, C0, C1, E, ED}
use Rattle.line.specs.Table.Event.{nothing, refusal}

-- the kinds whose latest message (the paper's standing reading) the record keeps
pub data Kept : Type 0 where
  k_43 k_46 k_4a k_4b k_eb : Kept

abbrev pub id_of : Kept → ℕ
id_of k_43 = 0x43
id_of k_46 = 0x46
id_of k_4a = 0x4A
id_of k_4b = 0x4B
id_of k_eb = 0xEB

-- a place of the table, or a number that is none
pub data Place : Type 0 where
  at : State → Place
  unknown : ℕ → Place

pub record Rec : Type 0 where
  pub mode : ℕ
  pub place : Place
  pub fed : ℕ
  pub accepted : ℕ
  pub refused : ℕ
  pub outside : ℕ
  pub pending : ℕ
  pub latest : Kept → Option (List ℕ)

-- the limit of fed
abbrev pub limit : ℕ
limit = 18446744073709551615

-- no place is asked of an unknown number: question 2 comes first
abbrev pub state_of : Place → State
state_of (at s) = s
state_of (unknown n) = W

abbrev pub Known : Place → Type 0
Known (at s) = Unit {0}
Known (unknown n) = ⊥

-- by cases of a state: W and WD; F and FD; C0 to ED
abbrev pub by_place {ℓ} : {A : Type ℓ} → State → A → (ℕ → List ℕ → A) → (ℕ → List ℕ → A) → A
by_place W x f g = x
by_place WD x f g = x
by_place (F id d) x f g = f id d
by_place (FD id d) x f g = f id d
by_place (C0 id d) x f g = g id d
by_place (C1 id d c1) x f g = g id d
by_place (E id d c1 c2) x f g = g id d
by_place (ED id d c1 c2) x f g = g id d

abbrev pub FromF : (ℕ → List ℕ → Type 0) → State → Type 0
FromF P s = by_place s (Unit {0}) P P

-- the clauses of question 2 on a place: none of C0 to ED in mode 0; a usable identifier from F on; data at most 1,024
abbrev pub ModeOk : Mode → State → Type 0
ModeOk m s = by_place s (Unit {0}) (λ id d. Unit {0}) (λ id d. m ≡ summed)

abbrev pub IdOk : State → Type 0
IdOk s = FromF (λ id d. class_of id ≡ other) s

abbrev pub SizeOk : State → Type 0
SizeOk s = FromF (λ id d. length d ≤ capacity) s

pub record PlaceOk (m : Mode) (s : State) : Type 0 where
  pub mode : ModeOk m s
  pub identifier : IdOk s
  pub size : SizeOk s

abbrev pub Fit : ℕ → Option (List ℕ) → Type 0
Fit id none = Unit {0}
Fit id (some d) = Acceptable id d

-- question 2, a field for each clause
pub record Possible (r : Rec) : Type 0 where
  -- a place above
  pub place : Known r.place
  pub mode : ModeOk (mode_of r.mode) (state_of r.place)
  pub identifier : IdOk (state_of r.place)
  pub size : SizeOk (state_of r.place)
  -- hand exactly the bytes of the open frame (0 in W, 1 in WD)
  pub pending : r.pending ≡ pending (state_of r.place)
  -- fed the sum of the other four counts
  pub fed : r.fed ≡ r.accepted + r.refused + r.outside + r.pending
  -- standing readings acceptable
  pub latest_43 : Fit 0x43 (r.latest k_43)
  pub latest_46 : Fit 0x46 (r.latest k_46)
  pub latest_4a : Fit 0x4A (r.latest k_4a)
  pub latest_4b : Fit 0x4B (r.latest k_4b)
  pub latest_eb : Fit 0xEB (r.latest k_eb)

-- questions 1 to 3, in order; offers: the call offers a byte, and so question 3 has a part in it
pub record Asked (r : Rec) (offers : Type 0) (refused_by : ℕ → Type 0) (answered : Type 0) : Type 0 where
  pub one : 1 < r.mode → refused_by 1
  pub two : r.mode ≤ 1 → (Possible r → ⊥) → refused_by 2
  pub three : r.mode ≤ 1 → Possible r → offers → limit ≤ r.fed → refused_by 3
  pub rest : r.mode ≤ 1 → Possible r → (offers → r.fed < limit) → answered

-- giving a message of a kept kind replaces the latest one
abbrev pub replaced : Bool → List ℕ → Option (List ℕ) → Option (List ℕ)
replaced true d old = some d
replaced false d old = old

abbrev pub update : Kept → Event → Option (List ℕ) → Option (List ℕ)
update k e old = by_event e old (λ id d n. replaced (eqb id (id_of k)) d old) (λ v id n. old)

-- the event of b, and the record once b is taken
abbrev pub event_of : Rec → ℕ → Event
event_of r b = (next (mode_of r.mode) (state_of r.place) b).event

abbrev pub stepped : Rec → ℕ → Rec
stepped r b =
    let t = next (mode_of r.mode) (state_of r.place) b in
    record {
      mode = r.mode;
      place = at t.to;
      fed = r.fed + 1;
      accepted = r.accepted + accepts t.event;
      refused = r.refused + refuses t.event;
      outside = r.outside + t.outside;
      pending = pending t.to;
      latest = λ k. update k t.event (r.latest k);
    }

-- a slice: bytes through the first event, or to the end or the limit
pub record Result : Type 0 where
  pub after : Rec
  pub answer : Event
  pub taken : ℕ

abbrev pub one_more : Result → Result
one_more x = record { after = x.after; answer = x.answer; taken = suc x.taken }

-- goes on where there is no event
abbrev pub or_stop : Event → Result → Result → Result
or_stop e more stop = by_event e more (λ id d n. stop) (λ v id n. stop)

abbrev pub walk : Rec → List ℕ → Result
walk r [] = record { after = r; answer = nothing; taken = 0 }
walk r (b ∷ bs) =
    cond (ltb r.fed limit)
    (or_stop (event_of r b) (one_more (walk (stepped r b) bs)) (record { after = stepped r b; answer = event_of r b; taken = 1 }))
    (record { after = r; answer = nothing; taken = 0 })

-- what a step of b, and a slice call, return and leave: 1 to 3 leave the record, with identifier 0, no data, 0 closed and 0 taken
abbrev pub StepPost : Rec → ℕ → Rec → Event → Type 0
StepPost r b r' a =
    Asked r (Unit {0}) (λ v. (r' ≡ r) × (a ≡ refusal v 0 0)) ((r' ≡ stepped r b) × (a ≡ event_of r b))

abbrev pub FeedPost : Rec → List ℕ → Rec → Event → ℕ → Type 0
FeedPost r bs r' a n =
    Asked r (0 < length bs) (λ v. (r' ≡ r) × (a ≡ refusal v 0 0) × (n ≡ 0))
    ((r' ≡ (walk r bs).after) × (a ≡ (walk r bs).answer) × (n ≡ (walk r bs).taken))

-- a fresh reader, or its refusal by 1, with no record
pub data Fresh : Type 0 where
  made : Rec → Fresh
  refused : ℕ → Fresh

abbrev pub fresh : ℕ → Fresh
fresh m =
    cond (leb m 1)
    (made (record { mode = m; place = at W; fed = 0; accepted = 0; refused = 0; outside = 0; pending = 0; latest = λ k. none }))
    (refused 1)
