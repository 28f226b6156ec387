-- Laws of numbers in bytes, low byte first, over any number of bytes: what callers use in place of their text.
use mathlib.Core.Bool.{Bool, true, false}
use mathlib.Core.Path.{◌≡◌, refl, sym, ap, ◌∙◌}
use mathlib.Core.List.{List, [], ◌∷◌}
use Prim.Native.Nat.{ℕ, zero, suc, ◌+◌, ◌*◌, ◌/◌, ◌%◌, ◌^◌, ◌≤◌, ◌<◌}
use native.Mathlib.Nat.{pow-suc, zero-lt-suc}
use native.Mathlib.Omega.{arith}
use borrow.Author.Tests.{le-leb, lt-leb, leb-true, leb-false}
use lib.Dec.{leb}
use lib.ListN.{length, take, drop, get_or, replicate, length-drop}
use lib.Seq.{drop-cons, length-take-le, get_or-take, get_or-drop}
use Rattle.std.specs.Int.{byte_worth, sum_through}
use Rattle.std.proofs.lemmas.List.{take_all}
use Rattle.numbers.specs.Number.{number_of, bytes_of, number_at}

pub length_bytes : (n x : ℕ) → length (bytes_of n x) ≡ n
unfolding bytes_of
length_bytes zero x = refl
length_bytes (suc n) x = ap suc (length_bytes n (x / 256))

-- the two are inverse, at any width
pub number_bytes : (n x : ℕ) → x < 256 ^ n → number_of (bytes_of n x) ≡ x
unfolding number_of bytes_of
number_bytes zero x h = omega arith
number_bytes (suc n) x h =
    let d : x < 256 ^ n * 256 = rw pow-suc at h in
    let q : x / 256 < 256 ^ n = omega arith in
    rw (number_bytes n (x / 256) q) (omega arith)

pub bytes_number : (s : List ℕ) → ((i : ℕ) → i < length s → get_or s i 0 < 256) → bytes_of (length s) (number_of s) ≡ s
unfolding number_of bytes_of
bytes_number [] h = refl
bytes_number (b ∷ s) h =
    let l : b < 256 = h 0 (zero-lt-suc (length s)) in
    let m : (b + 256 * number_of s) % 256 ≡ b = omega arith in
    let q : (b + 256 * number_of s) / 256 ≡ number_of s = omega arith in
    rw (m, q, bytes_number s (λ i k. h (suc i) (omega arith)))

number_lt : (s : List ℕ) → ((i : ℕ) → i < length s → get_or s i 0 < 256) → number_of s < 256 ^ length s
unfolding number_of
number_lt [] h = omega arith
number_lt (b ∷ s) h =
    let l : b < 256 = h 0 (zero-lt-suc (length s)) in
    let t : number_of s < 256 ^ length s = number_lt s (λ i k. h (suc i) (omega arith)) in
    rw pow-suc (omega arith)

-- where the bytes are there, and where not
pub number_in : (s : List ℕ) (at n : ℕ) → at + n ≤ length s → number_at s at n ≡ number_of (take n (drop at s))
unfolding number_at
number_in s at n h = rw (le-leb (at + n) (length s) h)

pub number_out : (s : List ℕ) (at n : ℕ) → length s < at + n → number_at s at n ≡ 0
unfolding number_at
number_out s at n h = rw (lt-leb (at + n) (length s) h)

-- a part of a list of bytes, and the number in it
pub part_bytes : (s : List ℕ) (at n : ℕ) → ((i : ℕ) → i < length s → get_or s i 0 < 256) → at + n ≤ length s
    → (length (take n (drop at s)) ≡ n) × ((i : ℕ) → i < length (take n (drop at s)) → get_or (take n (drop at s)) i 0 < 256)
part_bytes s at n b h =
    let l : length (take n (drop at s)) ≡ n = length-take-le n (drop at s) (rw (length-drop at s) (omega arith)) in
    (l, λ i k. rw (get_or-take n (drop at s) i 0 (omega arith), get_or-drop at s i 0) (b (at + i) (omega arith)))

pub part_lt : (s : List ℕ) (at n : ℕ) → ((i : ℕ) → i < length s → get_or s i 0 < 256) → at + n ≤ length s → number_of (take n (drop at s)) < 256 ^ n
part_lt s at n b h = let p = part_bytes s at n b h in rw p.0 at (number_lt (take n (drop at s)) p.1)

-- one byte is the number that it stands for
past : (s : List ℕ) (at : ℕ) → length s ≤ at → get_or s at 0 ≡ 0
past [] at h = refl
past (b ∷ s) zero h = absurd (omega arith)
past (b ∷ s) (suc at) h = past s at (omega arith)

pub number_one : (s : List ℕ) (at : ℕ) → number_at s at 1 ≡ get_or s at 0
unfolding number_of
number_one s at = by (leb (at + 1) (length s)) refl
  where
    by : (t : Bool) → leb (at + 1) (length s) ≡ t → number_at s at 1 ≡ get_or s at 0
    by true e =
        let h = leb-true (at + 1) (length s) e in
        let z : get_or s at 0 + 256 * 0 ≡ get_or s at 0 = omega arith in
        number_in s at 1 h ∙ ap (λ l. number_of (take 1 l)) (drop-cons s at 0 (omega arith)) ∙ z
    by false e =
        let h = leb-false (at + 1) (length s) e in
        number_out s at 1 h ∙ sym (past s at (omega arith))

-- no bytes but zeros are no number but 0
pub number_zeros : (n : ℕ) → number_of (replicate n 0) ≡ 0
unfolding number_of
number_zeros zero = refl
number_zeros (suc n) = rw (number_zeros n) refl

-- one byte more behind the first n
number_more : (n : ℕ) (s : List ℕ) → number_of (take (suc n) s) ≡ number_of (take n s) + get_or s n 0 * 256 ^ n
unfolding number_of
number_more zero [] = omega arith
number_more (suc n) [] = omega arith
number_more zero (b ∷ s) = omega arith
number_more (suc n) (b ∷ s) = rw pow-suc (omega (arith, number_more n s))

number_first : (s : List ℕ) → get_or s 0 0 ≡ number_of (take 1 s)
unfolding number_of
number_first [] = refl
number_first (b ∷ s) = omega arith

-- the language's own reading of as many bytes
pub read_through : (n : ℕ) (s : List ℕ) → length s ≡ suc n → sum_through (λ i. byte_worth i (get_or s i 0)) n ≡ number_of s
read_through n s h = through n ∙ ap number_of (take_all (suc n) s (omega arith))
  where
    through : (m : ℕ) → sum_through (λ i. byte_worth i (get_or s i 0)) m ≡ number_of (take (suc m) s)
    through zero = let e : get_or s 0 0 ≡ number_of (take 1 s) = number_first s in e
    through (suc m) = rw (through m) (sym (number_more (suc m) s))
