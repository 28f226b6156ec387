-- A table's rule, from a test of its numbers one after the other that is computed.
use mathlib.Core.Bool.{Bool, true, ◌&&◌, and-eq-true_iff}
use mathlib.Core.List.{List, [], ◌∷◌}
use mathlib.Core.Path.{◌≡◌, ap, sym, ◌∙◌}
use Prim.Native.Nat.{ℕ, zero, suc, ◌+◌, ◌<◌}
use native.Mathlib.Nat.{add-zero, zero-add, add-suc, suc-add, le_of_suc-le-suc, not-suc-le-zero}
use borrow.Author.Tests.{eqb-true}
use lib.Dec.{eqb}
use lib.ListN.{length, get_or}
use Rattle.checksum.specs.Checksum.{Entries, after_byte}

-- the numbers are, in a row, what bytes i, i + 1, .. leave
abbrev pub in_row : ℕ → List ℕ → Bool
in_row i [] = true
in_row i (x ∷ t) = eqb x (after_byte 0 i) && in_row (suc i) t

at : (i : ℕ) (t : List ℕ) → in_row i t ≡ true → (k : ℕ) → k < length t → get_or t k 0 ≡ after_byte 0 (i + k)
at i [] e k h = absurd (not-suc-le-zero h)
at i (x ∷ t) e zero h = eqb-true x (after_byte 0 i) ((and-eq-true_iff _ (in_row (suc i) t)).0 e).0 ∙ ap (after_byte 0) (sym (add-zero i))
at i (x ∷ t) e (suc k) h =
    at (suc i) t ((and-eq-true_iff (eqb x (after_byte 0 i)) _).0 e).1 k (le_of_suc-le-suc h)
    ∙ ap (after_byte 0) (suc-add i k ∙ sym (add-suc i k))

pub entries : (t : List ℕ) → length t ≡ 256 → in_row 0 t ≡ true → Entries t
entries t n e =
    record {
      all = n;
      each = λ v h. at 0 t e v (rw n h) ∙ ap (after_byte 0) (zero-add v);
    }
