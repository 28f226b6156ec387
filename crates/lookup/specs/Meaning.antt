-- What the theorems about lookup say (proofs/Theorems.antt).
use Rattle.std.specs.Prelude.{◌≡◌, List, ℕ, ◌/◌, ◌<◌, length, Option, Some, None, Result, Ok, Err}
use Rattle.kinds.specs.Kinds.{content}
use Rattle.lookup.specs.Lookup.{entry_at}

-- there is an entry at the index, and it has both
pub record Holds (d : List ℕ) (s n i : ℕ) : Type 0 where
  pub within : i < length d / 7
  pub has_system : (entry_at d i).system ≡ s
  pub has_number : (entry_at d i).number ≡ n

-- so it is, and at no lower index
pub record Earliest (d : List ℕ) (s n i : ℕ) : Type 0 where
  pub holds : Holds d s n i
  pub no_lower : (j : ℕ) → j < i → Holds d s n j → ⊥

-- so it is at no index
abbrev pub Absent : List ℕ → ℕ → ℕ → Type 0
Absent d s n = (i : ℕ) → Holds d s n i → ⊥

-- the paper's number and index for each answer: 0 and the earliest, 0 and none, or the refusal alone
abbrev pub Finds : List ℕ → ℕ → ℕ → Result (Option ℕ) ℕ → Type 0
Finds d s n (Ok (Some i)) = (content 0x52 d ≡ 0) × Earliest d s n i
Finds d s n (Ok None) = (content 0x52 d ≡ 0) × Absent d s n
Finds d s n (Err v) = (content 0x52 d ≡ v) × (v ≡ 0 → ⊥)
