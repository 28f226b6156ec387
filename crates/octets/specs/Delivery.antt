-- What every call answers that writes into a lent buffer, and what it leaves there: refused by its number, it has length 0 and writes
-- no byte; else 13 of a buffer too short; else exactly the text's bytes stand from the buffer's start on, and no later byte is changed.
use Rattle.std.specs.Prelude.{cond, List, ◌≡◌, ℕ, ◌≤◌, eqb, ltb, length, take, Result, Ok, Err}
use Rattle.refusals.specs.declared.Refusal.{Refusal}
use Rattle.refusals.specs.Numbers.{number}
use Rattle.octets.specs.Placing.{placed}

-- the answer by the papers' numbers: a refusal's, or 0 and the bytes written
pub record Written : Type 0 where
  pub refusal : ℕ
  pub length : ℕ

abbrev pub refused : ℕ → Written
refused v = record { refusal = v; length = 0 }

abbrev pub accepted : ℕ → Written
accepted n = record { refusal = 0; length = n }

-- the answer that a call returned
abbrev pub written : Result ℕ Refusal → Written
written (Ok n) = accepted n
written (Err r) = refused (number r)

-- v: the number by which the text t is refused, or 0; b: the buffer
unfoldable pub written_of : ℕ → List ℕ → List ℕ → Written
written_of v t b = cond (eqb v 0) (cond (ltb (length b) (length t)) (refused 13) (accepted (length t))) (refused v)

-- the buffer afterwards: `placed` leaves one that is too short
unfoldable pub filled_of : ℕ → List ℕ → List ℕ → List ℕ
filled_of v t b = cond (eqb v 0) (placed b 0 t) b

-- n bytes at the start of b: what a caller has to know to lend them
abbrev pub Counts : ℕ → List ℕ → Type 0
Counts n b = (n ≤ length b) × (n ≡ length (take n b))
