-- What the theorems about words of satellites say (proofs/Theorems.antt).
use Rattle.std.specs.Prelude.{◌≡◌, List, ◌↔◌, ℕ, ◌+◌, ◌-◌, ◌≤◌, ◌<◌, eqb, length}
use Rattle.satellites.specs.Sets.{bit}
use Rattle.ranges.specs.Ranges.{count}
use Rattle.fields_47.specs.declared.Use.{Use}
use Rattle.in_use.specs.InUse.{triple_at}

-- a triple stands somewhere in the data
pub record Stands (t : Use) (d : List ℕ) : Type 0 where
  pub index : ℕ
  pub within : index < 56
  pub there : triple_at d index ≡ t

-- the triple that enables a satellite
abbrev pub enabling : ℕ → ℕ → Use
enabling s n = record { system = s; number = n; used = 1 }

-- bit k − 1 is 1 exactly where a triple enables GPS k, bit 31 + k exactly where one enables GLONASS k, and no other bit is
pub record Shows (d : List ℕ) (w : ℕ) : Type 0 where
  pub gps : (k : ℕ) → 1 ≤ k → k ≤ 32 → bit w (k - 1) ≡ 1 ↔ Stands (enabling 1 k) d
  pub glonass : (k : ℕ) → 1 ≤ k → k ≤ 24 → bit w (31 + k) ≡ 1 ↔ Stands (enabling 2 k) d
  pub no_other : (p : ℕ) → 56 ≤ p → bit w p ≡ 0

-- every triple of d stands somewhere in e
abbrev pub Contained : List ℕ → List ℕ → Type 0
Contained d e = (i : ℕ) → i < 56 → Stands (triple_at d i) e

-- how many of the triples have use 1
abbrev pub enabled_in : List ℕ → ℕ
enabled_in d = count 56 (λ i. eqb (triple_at d i).used 1)

-- a bit above 55 is set
pub record Above (w : ℕ) : Type 0 where
  pub place : ℕ
  pub above : 56 ≤ place
  pub set : bit w place ≡ 1

-- the number of the first question that refuses a word to be written, beside the yes of each one before it; 0 where none does
pub data First (w : ℕ) (b : List ℕ) : ℕ → Type 0 where
  by_bit : Above w → First w b 17
  by_room : (Above w → ⊥) → length b < 168 → First w b 13
  accepted : (Above w → ⊥) → 168 ≤ length b → First w b 0
