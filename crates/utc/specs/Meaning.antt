-- What the theorems about the offset say (proofs/Theorems.antt).
use Rattle.std.specs.Prelude.{◌≡◌, true, false, List, ◌⊎◌, ℕ, suc, ◌+◌, ◌^◌, ◌≤◌, length, ℤ, pos, negsuc, Float}
use Rattle.std.specs.Float.{binary64}
use Rattle.std.specs.Float.Ieee.{of_bits}
use Rattle.std.specs.Float.Ieee.Exact.{HasValue}
use Rattle.std.specs.Float.Ieee.Scale.{finite}
use Rattle.fields_4b.specs.Fields.{fields_of}
use Rattle.fields_4b.specs.declared.Scales.{Scales}

-- t and tot are seconds of a week, and the weeks differ by at most 127, either way
pub record Near (second tot week wnt : ℕ) : Type 0 where
  pub second_le : second ≤ 604799
  pub tot_le : tot ≤ 604799
  pub week_le : week ≤ wnt + 127
  pub wnt_le : wnt ≤ week + 127

abbrev pub InTime : Scales → ℕ → ℕ → Type 0
InTime f second week = Near second f.tot week f.wnt

abbrev pub Finite : Scales → Type 0
Finite f = (finite (of_bits binary64 f.a0) ≡ true) × (finite (of_bits binary64 f.a1) ≡ true)

-- the number of the first question that says no, beside the yes of each one before it; 0 where all say yes
pub data First (d : List ℕ) (second week : ℕ) : ℕ → Type 0 where
  by_length : (length d ≡ 42 → ⊥) → First d second week 11
  by_flag : length d ≡ 42 → ((fields_of d).gps_reliable ≡ 255 → ⊥) → First d second week 14
  by_time : length d ≡ 42 → (fields_of d).gps_reliable ≡ 255 → (InTime (fields_of d) second week → ⊥) → First d second week 15
  by_coefficient : length d ≡ 42 → (fields_of d).gps_reliable ≡ 255 → InTime (fields_of d) second week → (Finite (fields_of d) → ⊥)
      → First d second week 16
  accepted : length d ≡ 42 → (fields_of d).gps_reliable ≡ 255 → InTime (fields_of d) second week → Finite (fields_of d) → First d second week 0

-- a float is exactly this integer: `HasValue x s n 1` says that x is finite, has this sign (true: negative), and is n in size
abbrev pub IsInteger : Float → ℤ → Type 0
IsInteger x (pos n) = HasValue x false n 1
IsInteger x (negsuc n) = HasValue x true (suc n) 1

-- the bits of a zero of either sign
abbrev pub ZeroBits : ℕ → Type 0
ZeroBits n = (n ≡ 0) ⊎ (n ≡ 2 ^ 63)

-- two messages that agree in all but WN_LSF, DN, dt_LSF, N^A, tau_c and the GLONASS flag
pub record SameTerms (f g : Scales) : Type 0 where
  pub a0 : f.a0 ≡ g.a0
  pub a1 : f.a1 ≡ g.a1
  pub tot : f.tot ≡ g.tot
  pub wnt : f.wnt ≡ g.wnt
  pub leap : f.dt_ls ≡ g.dt_ls
  pub reliable : f.gps_reliable ≡ g.gps_reliable
