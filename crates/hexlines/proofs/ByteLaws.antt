-- Laws of the bytes that digits stand for.
use mathlib.Core.Path.{◌≡◌, refl, sym, ap, ◌∙◌}
use mathlib.Core.List.{List, [], ◌∷◌, ◌++◌}
use Prim.Native.Nat.{ℕ, suc, zero, ◌+◌, ◌-◌, ◌*◌, ◌≤◌, ◌<◌}
use native.Mathlib.Nat.{add-zero, zero-add, sub-zero}
use native.Mathlib.Omega.{arith}
use lib.ListN.{length, take, set, get_or, length-set}
use lib.Seq.{take-nil}
use Rattle.std.proofs.Common.{min}
use Rattle.octets.specs.Placing.{placed}
use Rattle.octets.proofs.PlacingLaws.{placed_cons, placed_nil}
use Rattle.hexlines.specs.Lines.{digit_of, bytes_of, parsed}

bytes_nil : bytes_of [] ≡ []
unfolding bytes_of
bytes_nil = refl

-- the byte of the first two digits
abbrev pub byte_of : List ℕ → ℕ
byte_of p = digit_of (get_or p 0 0) * 16 + digit_of (get_or p 1 0)

-- two digits, or the last one that is alone, and what follows
bytes_pair : (p rest : List ℕ) → length p ≡ min 2 (length (p ++ rest)) → 0 < length (p ++ rest) → bytes_of (p ++ rest) ≡ byte_of p ∷ bytes_of rest
unfolding bytes_of digit_of
bytes_pair [] rest e h = absurd (omega (arith, e))
bytes_pair (h ∷ []) [] e k = ap (λ (n : ℕ). n ∷ []) (sym (add-zero (digit_of h * 16)))
bytes_pair (h ∷ []) (l ∷ s) e k = absurd (omega (arith, e))
bytes_pair (h ∷ l ∷ []) rest e k = refl
bytes_pair (h ∷ l ∷ x ∷ p) rest e k = absurd (omega (arith, e))

length_take_most : (n : ℕ) (l : List ℕ) → length (take n l) ≤ n
length_take_most zero l = omega arith
length_take_most (suc n) [] = omega arith
length_take_most (suc n) (x ∷ l) = omega (arith, length_take_most n l)

-- n bytes are stored and these digits are still to be read: what they give, put after those, makes the whole
pub record Left (out₀ s out : List ℕ) (n : ℕ) (rest : List ℕ) : Type 0 where
  pub same : length out ≡ length out₀
  pub inside : n ≤ length out₀
  pub count : n + length (take (length out₀ - n) (bytes_of rest)) ≡ length (parsed (length out₀) s)
  pub whole : placed out n (take (length out₀ - n) (bytes_of rest)) ≡ placed out₀ 0 (parsed (length out₀) s)

pub left_all : (out s : List ℕ) → Left out s out 0 s
left_all out s =
    let e : take (length out - 0) (bytes_of s) ≡ parsed (length out) s = ap (λ (n : ℕ). take n (bytes_of s)) (sub-zero (length out)) in
    record { same = refl; inside = omega arith; count = zero-add _ ∙ ap length e; whole = ap (placed out 0) e }

pub left_more : (out₀ s out : List ℕ) (n : ℕ) (rest p after : List ℕ) (b : ℕ) → Left out₀ s out n rest → n < length out₀
    → rest ≡ p ++ after → length p ≡ min 2 (length rest) → 0 < length rest → b ≡ byte_of p
    → Left out₀ s (set out n b) (n + 1) after
left_more out₀ s out n rest p after b l h split two some e =
    let m = length out₀ in
    let later = take (m - (n + 1)) (bytes_of after) in
    let room : m - n ≡ suc (m - (n + 1)) = omega arith in
    let first : bytes_of rest ≡ byte_of p ∷ bytes_of after = ap bytes_of split ∙ bytes_pair p after (rw split at two) (rw split at some) in
    let next : take (m - n) (bytes_of rest) ≡ b ∷ later =
    (λ i. take (room i) (first i)) ∙ ap (λ (x : ℕ). x ∷ later) (sym e) in
    let counted : length (take (m - n) (bytes_of rest)) ≡ suc (length later) = ap length next in
    let fit : n + 1 + length later ≤ length out = omega (arith, length_take_most (m - (n + 1)) (bytes_of after), l.same) in
    record {
      same = length-set out n b ∙ l.same;
      inside = omega arith;
      count = omega (arith, l.count);
      whole = placed_cons out n b later fit ∙ ap (placed out n) (sym next) ∙ l.whole;
    }

-- what the contract asks of the bytes stored
abbrev pub Whole : List ℕ → List ℕ → List ℕ → ℕ → Type 0
Whole out₀ s out n = ((n ≡ length (parsed (length out₀) s)) × (out ≡ placed out₀ 0 (parsed (length out₀) s))) × (n ≤ length out)

left_none : (out₀ s out : List ℕ) (n : ℕ) (rest : List ℕ) → Left out₀ s out n rest → take (length out₀ - n) (bytes_of rest) ≡ [] → Whole out₀ s out n
left_none out₀ s out n rest l e =
    let none : length (take (length out₀ - n) (bytes_of rest)) ≡ 0 = ap length e in
    ((omega (arith, l.count), sym (placed_nil out n) ∙ ap (placed out n) (sym e) ∙ l.whole), omega (arith, l.same, l.inside))

-- no digit is left
pub left_read : (out₀ s out : List ℕ) (n : ℕ) (rest : List ℕ) → Left out₀ s out n rest → length rest ≡ 0 → Whole out₀ s out n
left_read out₀ s out n [] l h =
    let m = length out₀ - n in
    left_none out₀ s out n [] l (ap (take m) bytes_nil ∙ take-nil m)
left_read out₀ s out n (x ∷ rest) l h = absurd (omega (arith, h))

-- no room is left
pub left_full : (out₀ s out : List ℕ) (n : ℕ) (rest : List ℕ) → Left out₀ s out n rest → length out₀ ≤ n → Whole out₀ s out n
left_full out₀ s out n rest l h =
    let e : length out₀ - n ≡ 0 = omega arith in
    left_none out₀ s out n rest l (ap (λ (k : ℕ). take k (bytes_of rest)) e)
