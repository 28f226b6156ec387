-- How many events the bytes raise: the lines of their listing but for the total.
use Rattle.std.specs.Prelude.{cond, List, [], ◌∷◌, ℕ, ◌+◌, ltb}
use Rattle.line.specs.Table.{Event, by_event}
use Rattle.line.specs.Record.{Rec, Fresh, limit, event_of, stepped}
use Rattle.line.specs.Record.Fresh.{made, refused}
use Rattle.record.specs.View.{Event as Shown}
use Rattle.record.specs.View.Event.{Nothing, Message, Refusal}

-- 1 of an event, 0 of none
abbrev pub occurs : Event → ℕ
occurs e = by_event e 0 (λ id d n. 1) (λ v id n. 1)

-- up to the first byte that can't be counted
abbrev pub event_count : Rec → List ℕ → ℕ
event_count r [] = 0
event_count r (b ∷ bs) = cond (ltb r.fed limit) (occurs (event_of r b) + event_count (stepped r b) bs) 0

-- by a fresh reader: where there is none, no event is raised
abbrev pub count_of : Fresh → List ℕ → ℕ
count_of (made r) s = event_count r s
count_of (refused v) s = 0

-- of a private function: the same of an event in memory
abbrev pub occurs_shown : Shown → ℕ
occurs_shown Nothing = 0
occurs_shown Message = 1
occurs_shown (Refusal v) = 1
