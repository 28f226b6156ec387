-- Document 02, Point 8: which satellites are in use, as a word of 64 bits, and the 47h data of a word.
use Rattle.std.specs.Prelude.{Bool, false, cond, ◌&&◌, ◌||◌, List, ◌++◌, ℕ, zero, suc, ◌+◌, ◌/◌, ◌^◌, eqb, Result, Ok, Err}
use Rattle.std.specs.Int.Count.{ones}
use Rattle.refusals.specs.declared.Refusal.{Refusal}
use Rattle.refusals.specs.Numbers.{number}
use Rattle.satellites.specs.Satellites.{place_of}
use Rattle.satellites.specs.Sets.{bit, with_bit}
use Rattle.kinds.specs.Kinds.{content}
use Rattle.encoding.specs.Entries.{entry_slice, laid_out}
use Rattle.fields_47.specs.Fields.{entry_of, entry_data, uses}
use Rattle.fields_47.specs.declared.Use.{Use}
use Rattle.in_use.specs.declared.InUse as code

-- ---- the word of data

-- the triple at an index: system, number, use
abbrev pub triple_at : List ℕ → ℕ → Use
triple_at d i = entry_of (entry_slice uses d i)

-- the bit of its satellite: k − 1 for GPS k, 31 + k for GLONASS k
abbrev pub bit_of : Use → ℕ
bit_of t = place_of t.system t.number

-- it enables the satellite of bit p: its use is 1
abbrev pub enables : Use → ℕ → Bool
enables t p = eqb t.used 1 && eqb (bit_of t) p

-- the test holds of a number below n
unfoldable pub any : ℕ → (ℕ → Bool) → Bool
any zero f = false
any (suc n) f = any n f || f n

-- of the bits 0 to n − 1 those are set at which the test holds
unfoldable pub set_of : ℕ → (ℕ → Bool) → ℕ
set_of zero f = 0
set_of (suc n) f = cond (f n) (with_bit (set_of n f) n) (set_of n f)

-- a bit is set where some triple enables its satellite
unfoldable pub word_of : List ℕ → ℕ
word_of d = set_of 56 (λ p. any 56 (λ i. enables (triple_at d i) p))

-- the answer by the papers' numbers: a refusal's and zeros, or 0, the word and how many of its bits are set
pub record InUse : Type 0 where
  pub refusal : ℕ
  pub word : ℕ
  pub count : ℕ

abbrev pub gives : ℕ → InUse
gives w = record { refusal = 0; word = w; count = ones w }

abbrev pub refuses : ℕ → InUse
refuses v = record { refusal = v; word = 0; count = 0 }

-- the answer that the call returned
abbrev pub in_use : Result code.InUse Refusal → InUse
in_use (Ok u) = record { refusal = 0; word = u.word; count = u.count }
in_use (Err r) = refuses (number r)

unfoldable pub in_use_of : List ℕ → InUse
in_use_of d = cond (eqb (content 0x47 d) 0) (gives (word_of d)) (refuses (content 0x47 d))

-- ---- the data of a word

-- the triple of a satellite: use 1 where its bit is set, else 2
abbrev pub triple_of : ℕ → ℕ → ℕ → Use
triple_of w s n = record { system = s; number = n; used = cond (eqb (bit w (place_of s n)) 1) 1 2 }

-- those of the satellites 1 to m of a system, numbers rising
unfoldable pub system_data : ℕ → ℕ → ℕ → List ℕ
system_data w s m = laid_out (λ i. entry_data (triple_of w s (i + 1))) m

-- GPS 1 to 32, then GLONASS 1 to 24
unfoldable pub data_of : ℕ → List ℕ
data_of w = system_data w 1 32 ++ system_data w 2 24

-- 17 if a bit above 55 is set
unfoldable pub refusal_of : ℕ → ℕ
refusal_of w = cond (eqb (w / 2 ^ 56) 0) 0 17
