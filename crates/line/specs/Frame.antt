-- Document 01, "The frame", and questions 9 to 12.
use Rattle.std.specs.Prelude.{Bool, cond, ◌&&◌, List, [], ◌∷◌, ◌++◌, ◌≡◌, ℕ, zero, suc, eqb}
use Rattle.stuffing.specs.Stuffing.{DLE, stuffed}
use Rattle.checksum.specs.Checksum.{c1_of, c2_of}
use Rattle.kinds.specs.Kinds.{content}

abbrev pub ETX : ℕ
ETX = 0x03

abbrev pub SUM : ℕ
SUM = 0xFF

-- mode 0 has no checksum, mode 1 always has one
pub data Mode : Type 0 where
  plain summed : Mode

abbrev pub mode_of : ℕ → Mode
mode_of zero = plain
mode_of (suc n) = summed

-- what a byte is to the table
pub data Class : Type 0 where
  dle etx sum other : Class

unfoldable pub class_of : ℕ → Class
class_of b = cond (eqb b DLE) dle (cond (eqb b ETX) etx (cond (eqb b SUM) sum other))

-- in mode 1 also DLE SUM c1 c2; c1 and c2 are never doubled
abbrev pub sum_field : Mode → ℕ → List ℕ → List ℕ
sum_field plain id d = []
sum_field summed id d = DLE ∷ SUM ∷ c1_of id d ∷ c2_of id d ∷ []

-- DLE, identifier, stuffed data, in mode 1 also DLE SUM c1 c2, then DLE ETX
abbrev pub frame : Mode → ℕ → List ℕ → List ℕ
frame m id d = DLE ∷ id ∷ (stuffed d ++ (sum_field m id d ++ (DLE ∷ ETX ∷ [])))

-- question 9: does the checksum agree?
abbrev pub agrees : ℕ → List ℕ → ℕ → ℕ → Bool
agrees id d c1 c2 = eqb c1 (c1_of id d) && eqb c2 (c2_of id d)

-- question 9, where there is a checksum, then 10 to 12: 0 where all are yes, else the number of the first no
abbrev pub judge : Mode → ℕ → List ℕ → ℕ → ℕ → ℕ
judge plain id d c1 c2 = content id d
judge summed id d c1 c2 = cond (agrees id d c1 c2) (content id d) 9

-- a message is acceptable if questions 10 to 12 are yes
abbrev pub Acceptable : ℕ → List ℕ → Type 0
Acceptable id d = content id d ≡ 0
