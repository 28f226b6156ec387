-- Laws of an entry: what its header is, by the tests that the code makes, and that it lies within the list.
use mathlib.Core.Bool.{Bool, true, false, cond}
use mathlib.Core.List.{List, [], ◌∷◌}
use mathlib.Core.Path.{◌≡◌, refl, sym, ap, ◌∙◌}
use Prim.Native.Nat.{ℕ, ◌+◌, ◌≤◌, ◌<◌}
use native.Mathlib.Omega.{arith}
use borrow.Author.Tests.{eq-eqb, ne_eqb, eqb-true, eqb-false, ltb-false, lt-ltb, le-ltb}
use lib.Dec.{eqb, ltb}
use lib.ListN.{length, take, length-drop}
use lib.Seq.{drop-cons}
use Rattle.octets.specs.Bytes.{byte}
use Rattle.numbers.specs.Number.{number_of}
use Rattle.numbers.proofs.NumberLaws.{number_in}
use Rattle.kinds.specs.Kinds.{content}
use Rattle.batch.specs.Entries.{Header, length_in, body_in, wrong, judged, header_of, rest_of}

-- the answers to the tests, put in
by_tests : (s : List ℕ) {a b : Bool} {v : ℕ} → ltb (length s) 3 ≡ a → ltb (length s) (3 + length_in s) ≡ b
    → content (byte s 0) (body_in (length_in s) s) ≡ v
    → header_of s ≡ cond a (wrong 19) (cond b (wrong 19) (judged v (byte s 0) (length_in s)))
unfolding header_of
by_tests s p q r = λ k. cond (p k) (wrong 19) (cond (q k) (wrong 19) (judged (r k) (byte s 0) (length_in s)))

pub header_whole : (s : List ℕ) → 3 ≤ length s → 3 + length_in s ≤ length s
    → header_of s ≡ judged (content (byte s 0) (body_in (length_in s) s)) (byte s 0) (length_in s)
header_whole s h l = by_tests s (le-ltb (length s) 3 h) (le-ltb (length s) (3 + length_in s) l) refl

pub judged_yes : (v id n : ℕ) → v ≡ 0 → judged v id n ≡ record { refusal = 0; id = id; length = n }
judged_yes v id n h = λ k. cond (eq-eqb v 0 h k) (record { refusal = 0; id = id; length = n }) (wrong v)

pub judged_no : (v id n : ℕ) → (v ≡ 0 → ⊥) → judged v id n ≡ wrong v
judged_no v id n h = λ k. cond (ne_eqb v 0 h k) (record { refusal = 0; id = id; length = n }) (wrong v)

-- an entry that is not refused: its fields are read, it lies within the list, and is acceptable
pub record Taken (s : List ℕ) : Type 0 where
  pub id : (header_of s).id ≡ byte s 0
  pub size : (header_of s).length ≡ length_in s
  pub within : 3 + (header_of s).length ≤ length s
  pub acceptable : content (header_of s).id (body_in (header_of s).length s) ≡ 0

pub taken : (s : List ℕ) → (header_of s).refusal ≡ 0 → Taken s
taken s e =
    by (ltb (length s) 3) (ltb (length s) (3 + length_in s)) (eqb v 0) refl refl refl
  where
    v : ℕ
    v = content (byte s 0) (body_in (length_in s) s)

    by : (a b t : Bool) → ltb (length s) 3 ≡ a → ltb (length s) (3 + length_in s) ≡ b → eqb v 0 ≡ t → Taken s
    by true b t p q z = let h = ap (λ (x : Header). x.refusal) (by_tests s p q refl) in absurd (omega arith)
    by false true t p q z = let h = ap (λ (x : Header). x.refusal) (by_tests s p q refl) in absurd (omega arith)
    by false false true p q z =
        let h = by_tests s p q refl ∙ judged_yes v (byte s 0) (length_in s) (eqb-true v 0 z) in
        let l = ap (λ (x : Header). x.length) h in
        record {
          id = ap (λ (x : Header). x.id) h;
          size = l;
          within = omega (arith, ltb-false (length s) (3 + length_in s) q);
          acceptable = ap (λ (x : Header). content x.id (body_in x.length s)) h ∙ eqb-true v 0 z;
        }
    by false false false p q z =
        let h = ap (λ (x : Header). x.refusal) (by_tests s p q refl ∙ judged_no v (byte s 0) (length_in s) (eqb-false v 0 z)) in
        absurd (eqb-false v 0 z (sym h ∙ e))

pub rest_less : (s : List ℕ) → (header_of s).refusal ≡ 0 → length (rest_of s) < length s
rest_less s e = rw length-drop (omega (arith, (taken s e).within))

-- the first entry, as the code reads it
module _ (s : List ℕ) where
  pub length_read : 3 ≤ length s → length_in s ≡ number_of (byte s 1 ∷ byte s 2 ∷ [])
  length_read h =
      number_in s 1 2 (omega arith)
      ∙ ap (λ l. number_of (take 2 l)) (drop-cons s 1 0 (omega arith))
      ∙ ap (λ l. number_of (byte s 1 ∷ take 1 l)) (drop-cons s 2 0 (omega arith))

  pub no_header : length s < 3 → header_of s ≡ wrong 19
  no_header h = by_tests s (lt-ltb (length s) 3 h) refl refl

  pub cut_short : 3 ≤ length s → length s < 3 + length_in s → header_of s ≡ wrong 19
  cut_short h l = by_tests s (le-ltb (length s) 3 h) (lt-ltb (length s) (3 + length_in s) l) refl
