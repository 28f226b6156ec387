-- Laws of a line's length.
use mathlib.Core.Path.{◌≡◌, refl, sym, ap, ◌∙◌}
use mathlib.Core.Bool.{Bool, true, false, cond, not}
use mathlib.Core.List.{List, []}
use Prim.Native.Nat.{ℕ, ◌<◌}
use native.Mathlib.Omega.{arith}
use borrow.Author.Tests.{ltb-true, ltb-false}
use lib.Dec.{eqb, ltb}
use lib.ListN.{length}
use Rattle.std.specs.List.{position, position_or_len}
use Rattle.std.proofs.Common.{Some, None}
use Rattle.std.proofs.lemmas.List.Recursion.{is_position_or_len}
use Rattle.std.proofs.lemmas.List.Sums.{prefix_len-le-length}
use Rattle.hexlines.specs.Lines.{line_length}

pub line_nil : line_length [] ≡ 0
unfolding line_length
line_nil = refl

-- the library's place of the first line end, and the length where it finds none
line_position : (s : List ℕ) → line_length s ≡ position_or_len (λ b. eqb b 10) s
unfolding line_length
line_position s = is_position_or_len line_length (λ b. eqb b 10) refl (λ b s. refl) s

line_found : (s : List ℕ) → position (λ b. eqb b 10) s ≡ cond (ltb (line_length s) (length s)) (Some (line_length s)) None
line_found s = ap (λ (n : ℕ). cond (ltb n (length s)) (Some n) None) (sym (line_position s))

pub line_at : (s : List ℕ) (n : ℕ) → position (λ b. eqb b 10) s ≡ Some n → (n ≡ line_length s) × (n < length s)
line_at s n e = go (ltb (line_length s) (length s)) refl (sym (line_found s) ∙ e)
  where
    go : (t : Bool) → ltb (line_length s) (length s) ≡ t → cond t (Some (line_length s)) None ≡ Some n → (n ≡ line_length s) × (n < length s)
    go true h e =
        let k = ltb-true (line_length s) (length s) h in
        let q : n ≡ line_length s = cc in
        (q, omega arith)
    go false h e = cc

pub line_open : (s : List ℕ) → position (λ b. eqb b 10) s ≡ None → length s ≡ line_length s
line_open s e = go (ltb (line_length s) (length s)) refl (sym (line_found s) ∙ e)
  where
    go : (t : Bool) → ltb (line_length s) (length s) ≡ t → cond t (Some (line_length s)) None ≡ None → length s ≡ line_length s
    go true h e = cc
    go false h e =
        omega (arith, ltb-false (line_length s) (length s) h, line_position s, prefix_len-le-length (λ b. not (eqb b 10)) s)
