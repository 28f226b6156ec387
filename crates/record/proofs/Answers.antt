-- The parts of an answer and the event that they are: one determines the other.
use Rattle.std.proofs.Common.{[], ◌≡◌, refl, sym, ap, ◌∙◌, ℕ}
use Rattle.line.specs.Table.{Event}
use Rattle.line.specs.Table.Event.{nothing, message, refusal}
use Rattle.record.specs.View.{Parts, shown, said}

pub said_shown : (e : Event) → said (shown e) ≡ e
said_shown nothing = refl
said_shown (message id d n) = refl
said_shown (refusal v id n) = refl

pub is_said : (p : Parts) (e : Event) → p ≡ shown e → said p ≡ e
is_said p e q = ap said q ∙ said_shown e

pub are_shown : (p : Parts) (e : Event) → p ≡ shown e → p ≡ shown (said p)
are_shown p e q = q ∙ ap shown (sym (is_said p e q))

-- with "nothing yet" 0 and empty, and a refusal has no data
pub nothing_empty : ((shown nothing).id ≡ 0) × ((shown nothing).body ≡ []) × ((shown nothing).closed ≡ 0)
nothing_empty = (refl, refl, refl)

pub refusal_empty : (v id n : ℕ) → (shown (refusal v id n)).body ≡ []
refusal_empty v id n = refl
