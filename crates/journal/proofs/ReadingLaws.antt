-- Laws of reading a record: the answer by the tests that the code makes.
use mathlib.Core.Bool.{Bool, true, false, cond, not, ◌&&◌}
use mathlib.Core.List.{List, [], ◌∷◌}
use mathlib.Core.Path.{◌≡◌, refl, sym, ap, ◌∙◌}
use Prim.Native.Nat.{ℕ, ◌+◌, ◌≤◌, ◌<◌}
use native.Mathlib.Omega.{arith}
use borrow.Author.Tests.{eq-eqb, ne_eqb, eqb-true, eqb-false, lt-ltb, le-ltb, ltb-false}
use lib.Dec.{eqb, ltb}
use lib.ListN.{length}
use Rattle.std.specs.List.{starts_with}
use Rattle.octets.specs.Bytes.{byte}
use Rattle.kinds.specs.Kinds.{content}
use Rattle.kinds.proofs.ContentLaws.{content_length, content_long}
use Rattle.journal.specs.Records.{restored}
use Rattle.journal.specs.Calls.{Entry, nothing, given, judged, marked, length_in, data_in, read_of}
use Rattle.journal.proofs.RecordLaws.{length_restored}

-- bytes are marked that start with the mark
both_ways : (a b : ℕ) → eqb a b ≡ eqb b a
both_ways a b = go (eqb a b) refl
  where
    go : (t : Bool) → eqb a b ≡ t → t ≡ eqb b a
    go true e = sym (eq-eqb b a (sym (eqb-true a b e)))
    go false e = sym (ne_eqb b a (λ q. eqb-false a b e (sym q)))

pub marks : (s : List ℕ) → starts_with eqb s (0x4E ∷ 0x56 ∷ []) ≡ marked s
marks [] = refl
marks (x ∷ []) = λ k. both_ways 0x4E x k && false
marks (x ∷ y ∷ s) = (λ k. both_ways 0x4E x k && (both_ways 0x56 y k && true)) ∙ ap (λ (t : Bool). eqb x 0x4E && t) (last (eqb y 0x56))
  where
    last : (t : Bool) → t && true ≡ t
    last true = refl
    last false = refl

module _ (v id : ℕ) (d : List ℕ) where
  pub judged_given : v ≡ 0 → judged v id d ≡ given id d
  judged_given z = λ k. cond (eq-eqb v 0 z k) (given id d) (nothing v)

  pub judged_refused : (v ≡ 0 → ⊥) → judged v id d ≡ nothing v
  judged_refused n = λ k. cond (ne_eqb v 0 n k) (given id d) (nothing v)

-- data longer than any kind's is refused alike in both orders
pub long_refused : (id : ℕ) (d : List ℕ) → 1024 < length d → nothing (content id d) ≡ judged (content id (restored id d)) id (restored id d)
long_refused id d l =
    let r : 1024 < length (restored id d) = omega (arith, length_restored id d) in
    ap nothing (content_long id d (restored id d) l r)
    ∙ sym (judged_refused (content id (restored id d)) id (restored id d) (λ z. omega (arith, content_length id (restored id d) z)))

-- the answers to the tests, put in
module _ (s : List ℕ) where
  abbrev last : Entry
  last = judged (content (byte s 2) (data_in s)) (byte s 2) (data_in s)

  by_tests : {a m b c : Bool} → eqb (length s) 0 ≡ a → ltb 1 (length s) && not (marked s) ≡ m → ltb (length s) 5 ≡ b
      → ltb (length s) (5 + length_in s) ≡ c
      → read_of s ≡ cond a (nothing 0) (cond m (nothing 20) (cond b (nothing 21) (cond c (nothing 21) last)))
  unfolding read_of
  by_tests p q r t = λ k. cond (p k) (nothing 0) (cond (q k) (nothing 20) (cond (r k) (nothing 21) (cond (t k) (nothing 21) last)))

  pub read_end : length s ≡ 0 → read_of s ≡ nothing 0
  read_end e = by_tests (eq-eqb (length s) 0 e) refl refl refl

  module _ (n : length s ≡ 0 → ⊥) where
    pub read_unmarked : ltb 1 (length s) && not (marked s) ≡ true → read_of s ≡ nothing 20
    read_unmarked m = by_tests (ne_eqb (length s) 0 n) m refl refl

    module _ (m : ltb 1 (length s) && not (marked s) ≡ false) where
      pub read_short : length s < 5 → read_of s ≡ nothing 21
      read_short l = by_tests (ne_eqb (length s) 0 n) m (lt-ltb (length s) 5 l) refl

      pub read_cut : 5 ≤ length s → length s < 5 + length_in s → read_of s ≡ nothing 21
      read_cut l c = by_tests (ne_eqb (length s) 0 n) m (le-ltb (length s) 5 l) (lt-ltb (length s) (5 + length_in s) c)

      pub read_record : 5 ≤ length s → 5 + length_in s ≤ length s → read_of s ≡ last
      read_record l c = by_tests (ne_eqb (length s) 0 n) m (le-ltb (length s) 5 l) (le-ltb (length s) (5 + length_in s) c)

-- what a read comes to: nothing, by a number that is 0 at the end alone; or the message of the record at the start
pub data Outcome (s : List ℕ) : Type 0 where
  none : (v : ℕ) → read_of s ≡ nothing v → (v ≡ 0 → length s ≡ 0) → Outcome s
  one : marked s ≡ true → 5 ≤ length s → 5 + length_in s ≤ length s → content (byte s 2) (data_in s) ≡ 0
      → read_of s ≡ given (byte s 2) (data_in s) → Outcome s

pub outcome : (s : List ℕ) → Outcome s
outcome s =
    go (eqb (length s) 0) (ltb 1 (length s) && not (marked s)) (ltb (length s) 5) (ltb (length s) (5 + length_in s)) (eqb v 0)
    refl refl refl refl refl
  where
    v : ℕ
    v = content (byte s 2) (data_in s)

    is_marked : (b : Bool) → ltb 1 (length s) && not b ≡ false → 5 ≤ length s → b ≡ true
    is_marked true e h = refl
    is_marked false e h = sym e ∙ (λ k. lt-ltb 1 (length s) (omega arith) k && true)

    go : (a m b c t : Bool) → eqb (length s) 0 ≡ a → ltb 1 (length s) && not (marked s) ≡ m → ltb (length s) 5 ≡ b
        → ltb (length s) (5 + length_in s) ≡ c → eqb v 0 ≡ t → Outcome s
    go true m b c t p q r u z = none 0 (by_tests s p q r u) (λ _. eqb-true (length s) 0 p)
    go false true b c t p q r u z = none 20 (by_tests s p q r u) (λ e. omega arith)
    go false false true c t p q r u z = none 21 (by_tests s p q r u) (λ e. omega arith)
    go false false false true t p q r u z = none 21 (by_tests s p q r u) (λ e. omega arith)
    go false false false false true p q r u z =
        let e = eqb-true v 0 z in
        let h = ltb-false (length s) 5 r in
        one (is_marked (marked s) q h) h (ltb-false (length s) (5 + length_in s) u) e (by_tests s p q r u ∙ judged_given v (byte s 2) (data_in s) e)
    go false false false false false p q r u z =
        let n = eqb-false v 0 z in
        none v (by_tests s p q r u ∙ judged_refused v (byte s 2) (data_in s) n) (λ e. absurd (n e))
