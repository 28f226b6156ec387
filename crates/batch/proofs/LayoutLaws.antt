-- What a list holds that is not refused: acceptable messages, laid out one after the other, and no byte more.
use mathlib.Core.Bool.{Bool, true, false}
use mathlib.Core.List.{List, [], ◌∷◌, ◌++◌, append_assoc}
use mathlib.Core.Path.{◌≡◌, refl, sym, ap, ◌∙◌, subst}
use Prim.Native.Nat.{ℕ, zero, suc, ◌+◌, ◌≤◌, ◌<◌}
use native.Mathlib.Omega.{arith}
use borrow.Author.Tests.{eqb-true, eqb-false, ltb-true, ltb-false}
use lib.Dec.{eqb, ltb}
use lib.ListN.{length, take, drop, length-drop, take-append-drop}
use lib.Seq.{drop-cons, drop-drop, length-take-le, get_or-drop}
use Rattle.octets.specs.Bytes.{byte, Bytes}
use Rattle.numbers.specs.Number.{number_of, bytes_of}
use Rattle.numbers.proofs.NumberLaws.{number_in, part_bytes, bytes_number}
use Rattle.batch.specs.Entries.{Entry, entry_bytes, list_bytes, body_in, header_of, first_of, rest_of, Contents, ahead, contents_of, limit, list_of, Each, AcceptableEntry}
use Rattle.batch.specs.Entries.Contents.{entries, refused}
use Rattle.batch.specs.Entries.Each.{none, also}
use Rattle.batch.proofs.EntryLaws.{Taken, taken, rest_less}
use Rattle.batch.proofs.ContentsLaws.{at_end, at_refusal, at_entry, list_long, list_short}

-- an entry's bytes, and those after it
module _ (s : List ℕ) (t : Taken s) (b : Bytes s) where
  abbrev n : ℕ
  n = (header_of s).length

  length_bytes_back : bytes_of 2 n ≡ take 2 (drop 1 s)
  length_bytes_back =
      let p = part_bytes s 1 2 b (omega (arith, t.within)) in
      ap (bytes_of 2) (t.size ∙ number_in s 1 2 (omega (arith, t.within)))
      ∙ ap (λ k. bytes_of k (number_of (take 2 (drop 1 s)))) (sym p.0)
      ∙ bytes_number (take 2 (drop 1 s)) p.1

  body_length : length (body_in n s) ≡ n
  body_length = length-take-le n (drop 3 s) (rw (length-drop 3 s) (omega (arith, t.within)))

  entry_whole : entry_bytes (first_of s) ++ rest_of s ≡ s
  entry_whole =
      (λ k. t.id k ∷ (bytes_of 2 (body_length k) ++ body_in n s ++ rest_of s))
      ∙ ap (λ l. byte s 0 ∷ l) (append_assoc (bytes_of 2 n) (body_in n s) (rest_of s))
      ∙ (λ k. byte s 0 ∷ (length_bytes_back k ++ (body_in n s ++ sym (drop-drop n 3 s) k)))
      ∙ ap (λ l. byte s 0 ∷ (take 2 (drop 1 s) ++ l)) (take-append-drop n (drop 3 s) ∙ sym (drop-drop 2 1 s))
      ∙ ap (λ l. byte s 0 ∷ l) (take-append-drop 2 (drop 1 s))
      ∙ sym (drop-cons s 0 0 (omega (arith, t.within)))

-- of the bytes s with these contents
abbrev pub Holds : List ℕ → Contents → Type 0
Holds s (entries xs) = Each AcceptableEntry xs × (Bytes s → list_bytes xs ≡ s)
Holds s (refused v) = v ≡ 0 → ⊥

rest_bytes : (n : ℕ) (s : List ℕ) → Bytes s → Bytes (drop n s)
rest_bytes n s b i h = rw (get_or-drop n s i 0) (b (n + i) (omega (arith, length-drop n s)))

no_bytes : (s : List ℕ) → length s ≡ 0 → list_bytes [] ≡ s
unfolding list_bytes
no_bytes [] e = refl
no_bytes (x ∷ s) e = absurd (omega arith)

one_more_lem : (s : List ℕ) → Taken s → (c : Contents) → Holds (rest_of s) c → Holds s (ahead (first_of s) c)
unfolding list_bytes
one_more_lem s t (entries xs) h = (
  also t.acceptable h.0,
  λ b. ap (λ l. entry_bytes (first_of s) ++ l) (h.1 (rest_bytes (3 + (header_of s).length) s b)) ∙ entry_whole s t b,
)
one_more_lem s t (refused v) h = h

holds : (k : ℕ) (s : List ℕ) → length s ≤ k → Holds s (contents_of s)
holds zero s h = subst (Holds s) (sym (at_end s (omega arith))) (none, λ b. no_bytes s (omega arith))
holds (suc k) s h = by (eqb (length s) 0) (eqb (header_of s).refusal 0) refl refl (λ l. holds k (rest_of s) (omega arith))
  where
    by : (a c : Bool) → eqb (length s) 0 ≡ a → eqb (header_of s).refusal 0 ≡ c
        → (length (rest_of s) < length s → Holds (rest_of s) (contents_of (rest_of s))) → Holds s (contents_of s)
    by true c p q f =
        let e = eqb-true (length s) 0 p in
        subst (Holds s) (sym (at_end s e)) (none, λ b. no_bytes s e)
    by false true p q f =
        let e = eqb-true (header_of s).refusal 0 q in
        subst (Holds s) (sym (at_entry s (omega (arith, eqb-false (length s) 0 p)) e))
        (one_more_lem s (taken s e) (contents_of (rest_of s)) (f (rest_less s e)))
    by false false p q f =
        let e = eqb-false (header_of s).refusal 0 q in
        subst (Holds s) (sym (at_refusal s (omega (arith, eqb-false (length s) 0 p)) e)) e

-- of all the bytes
pub contents_holds : (s : List ℕ) → Holds s (contents_of s)
contents_holds s = holds (length s) s (omega arith)

-- of the whole list
pub list_holds : (s : List ℕ) → Holds s (list_of s)
list_holds s = by (ltb limit (length s)) refl
  where
    by : (t : Bool) → ltb limit (length s) ≡ t → Holds s (list_of s)
    by true p = subst (Holds s) (sym (list_long s (ltb-true limit (length s) p))) (λ z. omega arith)
    by false p = subst (Holds s) (sym (list_short s (ltb-false limit (length s) p))) (holds (length s) s (omega arith))

pub list_acceptable : (s : List ℕ) (xs : List Entry) → list_of s ≡ entries xs → Each AcceptableEntry xs
list_acceptable s xs e = (subst (Holds s) e (list_holds s)).0

-- every byte of a list that is not refused is a byte of an entry
pub list_bytes_lem : (s : List ℕ) → Bytes s → (xs : List Entry) → list_of s ≡ entries xs → list_bytes xs ≡ s
list_bytes_lem s b xs e = (subst (Holds s) e (list_holds s)).1 b
