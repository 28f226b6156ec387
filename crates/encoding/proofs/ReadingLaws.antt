-- Laws of reading the entries that some bytes hold from the chunks of these bytes, over any width.
use mathlib.Core.Path.{◌≡◌, refl, ap, ◌∙◌}
use mathlib.Core.Bool.{Bool, true, false, cond}
use mathlib.Core.List.{List, [], ◌∷◌, ◌++◌, append_assoc, append-nil}
use Prim.Native.Nat.{ℕ, zero, suc, ◌+◌, ◌*◌, ◌-◌, ◌/◌, ◌≤◌, ◌<◌}
use native.Mathlib.Nat.{mul-zero, mul-suc}
use native.Mathlib.Omega.{arith}
use borrow.Author.Tests.{ltb-true, ltb-false}
use lib.Dec.{ltb}
use lib.ListN.{length, take, drop, get_or, replicate, length-drop}
use lib.Seq.{drop-drop}
use Rattle.std.specs.Prelude.{min}
use Rattle.std.specs.Simd.{first_chunks}
use Rattle.std.proofs.Math.Nat.{min-eq_left, min-eq_right}
use Rattle.std.proofs.lemmas.List.{replicate-append-replicate}
use Rattle.encoding.specs.Entries.{Series, firsts, entries_of, entries_in}
use Rattle.encoding.proofs.EntryLaws.{firsts_same}

-- f at each index below n, and b at the others
filled : {A : Type 0} (f : ℕ → A) (b : A) (n m : ℕ) → firsts (λ i. cond (ltb i n) (f i) b) m ≡ firsts f (min n m) ++ replicate (m - min n m) b
unfolding firsts
filled f b n zero = rw (min-eq_right {n = 0} {m = n} (omega arith)) refl
filled {A} f b n (suc m) = go (ltb m n) refl (filled f b n m)
  where
    go : (t : Bool) → ltb m n ≡ t → firsts (λ i. cond (ltb i n) (f i) b) m ≡ firsts f (min n m) ++ replicate (m - min n m) b
        → firsts (λ i. cond (ltb i n) (f i) b) m ++ (cond t (f m) b ∷ []) ≡ firsts f (min n (suc m)) ++ replicate (suc m - min n (suc m)) b
    go true e ih =
        let l : m < n = ltb-true m n e in
        let z : m - m ≡ 0 = omega arith in
        let y : suc m - suc m ≡ 0 = omega arith in
        rw (ih, min-eq_right {n = m} {m = n} (omega arith), min-eq_right {n = suc m} {m = n} (omega arith), z, y, append-nil, append-nil) refl
    go false e ih =
        let l : n ≤ m = ltb-false m n e in
        let z : suc m - n ≡ m - n + 1 = omega arith in
        rw (ih, min-eq_left {n = n} {m = m} l, min-eq_left {n = n} {m = suc m} (omega arith), z, append_assoc (firsts f n) (replicate (m - n) b) (b ∷ []))
        (ap (λ (t : List A). firsts f n ++ t) (replicate-append-replicate (m - n) 1 b))

-- the chunk at an index
chunk_at : {A : Type 0} (w k i : ℕ) (d : List A) → i < k → get_or (first_chunks w k d) i [] ≡ take w (drop (w * i) d)
chunk_at w zero i d l = absurd (omega arith)
chunk_at w (suc k) zero d l = rw mul-zero refl
chunk_at w (suc k) (suc i) d l =
    chunk_at w k i (drop w d) (omega arith)
    ∙ ap (take w) (drop-drop (w * i) w d ∙ ap (λ (n : ℕ). drop n d) (omega (arith, mul-suc w i)))

module _ {E : Type 0} (s : Series E) (d : List ℕ) where
  -- what is read of each chunk is what the bytes hold
  pub read_chunks : (w most : ℕ) → s.width ≡ w → (all : List (List ℕ)) → all ≡ first_chunks w (length d / w) d
      → length all ≡ length d / w → (es : List E)
      → es ≡ firsts (λ i. cond (ltb i (length all)) (s.entry_of (get_or all i [])) s.blank) most → es ≡ entries_in s most d
  read_chunks w most width all chunks count es e =
      e
      ∙ firsts_same (λ i. cond (ltb i (length all)) (s.entry_of (get_or all i [])) s.blank)
      (λ i. cond (ltb i (length d / s.width)) (s.entry_of (take s.width (drop (s.width * i) d))) s.blank) most (λ i _. one i (ltb i (length d / w)) refl)
      ∙ filled (λ i. s.entry_of (take s.width (drop (s.width * i) d))) s.blank (length d / s.width) most
    where
      one : (i : ℕ) (t : Bool) → ltb i (length d / w) ≡ t → cond (ltb i (length all)) (s.entry_of (get_or all i [])) s.blank
          ≡ cond (ltb i (length d / s.width)) (s.entry_of (take s.width (drop (s.width * i) d))) s.blank
      one i true t = rw (width, count, t, chunks) (ap s.entry_of (chunk_at w (length d / w) i d (ltb-true i (length d / w) t)))
      one i false t = rw (width, count, t) refl

  -- the entries past a header
  pub past_header : (n : ℕ) → n ≡ min ((length d - s.header) / s.width) s.most → entries_in s s.most (drop s.header d) ≡ entries_of s d n
  past_header n e =
      rw (length-drop, e)
      (ap (λ (l : List E). l ++ replicate (s.most - min ((length d - s.header) / s.width) s.most) s.blank)
      (firsts_same _ _ (min ((length d - s.header) / s.width) s.most) (λ i _. ap (λ (t : List ℕ). s.entry_of (take s.width t)) (drop-drop (s.width * i) s.header d))))
