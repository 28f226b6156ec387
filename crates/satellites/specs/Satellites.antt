-- Document 01, "Kinds and fields": satellites by system and number, and carrier numbers of GLONASS.
use Rattle.std.specs.Prelude.{Bool, ◌&&◌, ◌||◌, ℕ, ◌+◌, ◌-◌, ◌*◌, eqb, leb, ℤ, pos, neg_ℤ}
use Rattle.std.specs.Int.Signed.{le_z}

abbrev pub between : ℕ → ℕ → ℕ → Bool
between low high n = leb low n && leb n high

-- from -low to high
abbrev pub within : ℕ → ℕ → ℤ → Bool
within low high z = le_z (neg_ℤ (pos low)) z && le_z z (pos high)

-- system 1 with number 1–32, or system 2 with 1–24
abbrev pub satellite : ℕ → ℕ → Bool
satellite s n = (eqb s 1 && between 1 32 n) || (eqb s 2 && between 1 24 n)

-- the place of a satellite among the 56: bit k − 1 for GPS k, bit 31 + k for GLONASS k
abbrev pub place_of : ℕ → ℕ → ℕ
place_of s n = 32 * (s - 1) + (n - 1)

-- a satellite of 20h, or system 4 with number 120–158 (document 02, Point 1)
abbrev pub visible : ℕ → ℕ → Bool
visible s n = satellite s n || (eqb s 4 && between 120 158 n)

-- INT8S carrier −7 to 13
abbrev pub carrier : ℤ → Bool
carrier z = within 7 13 z
