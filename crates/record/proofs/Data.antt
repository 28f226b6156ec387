-- The data of the record, and small laws that the slice call shares.
use mathlib.Core.Bool.{Bool, true, false}
use mathlib.Core.List.{List, ◌++◌}
use mathlib.Core.Path.{◌≡◌, refl, ap, ◌∙◌}
use Prim.Native.Nat.{ℕ, ◌≤◌}
use native.Mathlib.Omega.{arith}
use lib.ListN.{length, take, replicate, length-append, length-replicate}
use lib.Seq.{take-append-le, length-take-le}
use Rattle.line.specs.Frame.{class_of}
use Rattle.line.specs.Frame.Class.{dle, etx, sum}
use Rattle.line.proofs.Classes.{class_dle, class_etx, class_sum}
use Rattle.record.specs.View.{first_bytes}

-- within the array, the data are its first bytes
pub data_take : (n : ℕ) (a : List ℕ) → n ≤ length a → first_bytes n a ≡ take n a
unfolding first_bytes
data_take n a h = take-append-le n a (replicate n 0) h

-- and they are always as many as said
pub data_length : (n : ℕ) (a : List ℕ) → length (first_bytes n a) ≡ n
unfolding first_bytes
data_length n a =
    length-take-le n (a ++ replicate n 0) (rw (length-append a (replicate n 0), length-replicate {A = ℕ} n 0) (omega arith))

-- a test, with its answer
pub tested {ℓ} : {P : Type ℓ} (t : Bool) → (t ≡ true → P) → (t ≡ false → P) → P
tested true y n = y refl
tested false y n = n refl

-- the class of a byte, from the arms of a match
pub is_dle : (b : ℕ) → b ≡ 16 → class_of b ≡ dle
is_dle b q = ap class_of q ∙ class_dle

pub is_etx : (b : ℕ) → b ≡ 3 → class_of b ≡ etx
is_etx b q = ap class_of q ∙ class_etx

pub is_sum : (b : ℕ) → b ≡ 255 → class_of b ≡ sum
is_sum b q = ap class_of q ∙ class_sum
