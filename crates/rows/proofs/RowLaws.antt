-- Laws of rows, over any list of widths: how they are put one after the other, and that reading and writing are inverse.
use mathlib.Core.Path.{◌≡◌, refl, sym, ap, ◌∙◌}
use mathlib.Core.Bool.{Bool, true, false, cond, ◌&&◌, and-eq-true_iff, and-false}
use mathlib.Core.List.{List, [], ◌∷◌, ◌++◌, append_assoc}
use Prim.Native.Nat.{ℕ, zero, suc, ◌+◌, ◌-◌, ◌*◌, ◌/◌, ◌%◌, ◌^◌, ◌≤◌, ◌<◌}
use native.Mathlib.Nat.{add-zero, zero-add, pow-suc, div-div-eq-div-mul}
use native.Mathlib.Numerals.{add-one}
use native.Mathlib.Omega.{arith}
use borrow.Author.Tests.{le-leb, lt-leb, leb-true, leb-false}
use lib.Dec.{leb}
use lib.IntN.{ℤ, pos, negsuc}
use lib.ListN.{length, take, drop, get_or, length-append, length-drop, take-append-drop}
use lib.Pow.{pow-add}
use lib.Seq.{drop-cons, drop-length, drop-drop, take_at, drop_at}
use Rattle.std.specs.Int.{bytes_low_first, byte_at, to_le_bytes, w64}
use Rattle.std.specs.Prelude.{None, Some}
use Rattle.numbers.specs.Number.{number_of, bytes_of, number_at}
use Rattle.octets.specs.Placing.{placed}
use Rattle.numbers.specs.Signed.{signed, unsigned}
use Rattle.numbers.proofs.NumberLaws.{length_bytes, number_bytes, bytes_number, number_in, part_bytes, part_lt}
use Rattle.numbers.proofs.SignedLaws.{signed_unsigned, unsigned_signed}
use Rattle.octets.proofs.PlacingLaws.{placed_nil, placed_more, placed_whole, length_placed}
use Rattle.rows.specs.Layout.{Row, natural, integer, width, bits, Held, AllHeld, joined, laid, total, short, within, packs, packed}

pub length_laid : (ns xs : List ℕ) → length ns ≤ length xs → length (laid ns xs) ≡ total ns
unfolding laid total
length_laid [] xs h = refl
length_laid (n ∷ ns) [] h = absurd (omega arith)
length_laid (n ∷ ns) (x ∷ xs) h =
    let t : length ns ≤ length xs = omega arith in
    rw (length-append (bytes_of n x) (laid ns xs), length_bytes n x, length_laid ns xs t)

-- the low bytes of a word, as the language has them
low_first : (n k i x : ℕ) → n ≤ k → take n (bytes_low_first i k x) ≡ bytes_of n (x / 256 ^ i)
unfolding bytes_of
low_first zero k i x h = refl
low_first (suc n) zero i x h = absurd (omega arith)
low_first (suc n) (suc k) i x h =
    let more : x / 256 ^ suc i ≡ x / 256 ^ i / 256 = ap (λ (m : ℕ). x / m) (pow-suc 256 i) ∙ sym (div-div-eq-div-mul x (256 ^ i) 256) in
    (λ j. first i j ∷ (low_first n k (suc i) x (omega arith) ∙ ap (bytes_of n) more) j)
  where
    first : (i : ℕ) → byte_at i x ≡ x / 256 ^ i % 256
    first zero = let one : x ≡ x / 256 ^ 0 = omega arith in ap (λ (y : ℕ). y % 256) one
    first (suc i) = refl

pub low_bytes : (n x : ℕ) → n ≤ 8 → take n (to_le_bytes w64 x) ≡ bytes_of n x
low_bytes n x h = low_first n 8 0 x h ∙ ap (bytes_of n) (omega arith)

next : (s : List ℕ) (i : ℕ) → i < length s → drop i s ≡ get_or s i 0 ∷ drop (i + 1) s
next s i h = rw add-one (drop-cons s i 0 h)

-- the widths still to go, and the room that is left for them: of a width that is too wide, of one that is over the room, after a
-- width, and of none
pub within_wide : (ns : List ℕ) (room i : ℕ) → i < length ns → 8 < get_or ns i 0 → within (drop i ns) room ≡ false
unfolding short
within_wide ns room i h w = rw (next ns i h, lt-leb (get_or ns i 0) 8 w)

pub within_over : (ns : List ℕ) (room i : ℕ) → i < length ns → room < get_or ns i 0 → within (drop i ns) room ≡ false
unfolding total
within_over ns room i h w =
    let n = get_or ns i 0 in
    rw (next ns i h, lt-leb (n + total (drop (i + 1) ns)) room (omega arith)) (and-false (short (n ∷ drop (i + 1) ns)))

less_leb : (room n t : ℕ) → n ≤ room → leb (n + t) room ≡ leb t (room - n)
less_leb room n t h = go (leb t (room - n)) refl
  where
    go : (b : Bool) → leb t (room - n) ≡ b → leb (n + t) room ≡ b
    go true e = let d : t ≤ room - n = leb-true t (room - n) e in le-leb (n + t) room (omega arith)
    go false e = let d : room - n < t = leb-false t (room - n) e in lt-leb (n + t) room (omega arith)

pub within_next : (ns : List ℕ) (room i : ℕ) → i < length ns → get_or ns i 0 ≤ 8 → get_or ns i 0 ≤ room
    → within (drop i ns) room ≡ within (drop (i + 1) ns) (room - get_or ns i 0)
unfolding short total
within_next ns room i h w k = rw (next ns i h, le-leb (get_or ns i 0) 8 w, less_leb room (get_or ns i 0) (total (drop (i + 1) ns)) k)

pub total_next : (ns : List ℕ) (i : ℕ) → i < length ns → total (drop i ns) ≡ get_or ns i 0 + total (drop (i + 1) ns)
unfolding total
total_next ns i h = rw (next ns i h)

pub within_none : (ns : List ℕ) (room i : ℕ) → i ≡ length ns → (within (drop i ns) room ≡ true) × (total (drop i ns) ≡ 0)
unfolding short total
within_none ns room i h =
    let d : drop i ns ≡ [] = ap (λ (j : ℕ). drop j ns) h ∙ drop-length ns in
    rw (d, le-leb 0 room (omega arith)) (refl, refl)

-- the words don't pack: there is no data; they do: the data are theirs
module _ (ns xs : List ℕ) where
  all : packs ns (length xs) ≡ true → (length ns ≤ length xs) × (short ns ≡ true) × (total ns ≤ 130)
  unfolding packs
  all e =
      let p = (and-eq-true_iff (leb (length ns) (length xs)) (within ns 130)).0 e in
      let q = (and-eq-true_iff (short ns) (leb (total ns) 130)).0 p.1 in
      (leb-true (length ns) (length xs) p.0, q.0, leb-true (total ns) 130 q.1)

  pub packed_none : None ≡ cond (packs ns (length xs)) (Some (total ns)) None → packed ns xs ≡ []
  unfolding packed
  packed_none h = by (packs ns (length xs)) h
    where
      by : (b : Bool) → None ≡ cond b (Some (total ns)) None → cond b (laid ns xs) [] ≡ []
      by true h = let z : ◌≡◌ {A = ℕ} 0 1 = cc in absurd (omega arith)
      by false h = refl

  pub packed_some : (n : ℕ) → Some n ≡ cond (packs ns (length xs)) (Some (total ns)) None
      → (packed ns xs ≡ laid ns xs) × (length ns ≤ length xs) × (short ns ≡ true) × (total ns ≡ n) × (n ≤ 130)
  unfolding packed
  packed_some n h = by (packs ns (length xs)) refl h
    where
      by : (b : Bool) → packs ns (length xs) ≡ b → Some n ≡ cond b (Some (total ns)) None
          → (cond b (laid ns xs) [] ≡ laid ns xs) × (length ns ≤ length xs) × (short ns ≡ true) × (total ns ≡ n) × (n ≤ 130)
      by true e h = let p = all e in let t : total ns ≡ n = cc in (refl, p.0, p.1, t, omega (arith, p.2))
      by false e h = let z : ◌≡◌ {A = ℕ} 0 1 = cc in absurd (omega arith)

-- the bytes of the words, read back from in front of others
pub read_back : (ns xs l rest : List ℕ) (n : ℕ) → length ns ≤ length xs → total ns ≡ n → l ≡ laid ns xs
    → (n ≤ length (l ++ rest)) × (take n (l ++ rest) ≡ laid ns xs)
read_back ns xs l rest n h t e =
    let k : length l ≡ n = ap length e ∙ length_laid ns xs h ∙ t in
    (omega (arith, length-append l rest), take_at l rest n k ∙ e)

-- what is still to be put after i words: placing it is placing all
pub record Left (ns xs first out : List ℕ) (at i : ℕ) : Type 0 where
  pub room : at + total (drop i ns) ≡ length out
  pub same : length out ≡ length first
  pub narrow : short (drop i ns) ≡ true
  pub is : placed out at (laid (drop i ns) (drop i xs)) ≡ placed first 0 (laid ns xs)

pub left_all : (ns xs out : List ℕ) → total ns ≡ length out → short ns ≡ true → Left ns xs out out 0 0
left_all ns xs out t s = record { room = zero-add (total ns) ∙ t; same = refl; narrow = s; is = refl }

-- the next width: it fits a u64, and its bytes are within the buffer
pub left_width : (ns xs first out : List ℕ) (at i : ℕ) → Left ns xs first out at i → i < length ns
    → (leb (get_or ns i 0) 8 ≡ true) × (at + get_or ns i 0 ≤ length out)
unfolding total short
left_width ns xs first out at i l h =
    let s : leb (get_or ns i 0) 8 && short (drop (i + 1) ns) ≡ true = rw (next ns i h) at l.narrow in
    let r : at + (get_or ns i 0 + total (drop (i + 1) ns)) ≡ length out = rw (next ns i h) at l.room in
    (((and-eq-true_iff (leb (get_or ns i 0) 8) (short (drop (i + 1) ns))).0 s).0, omega arith)

pub left_next : (ns xs first out : List ℕ) (at i : ℕ) → Left ns xs first out at i → i < length ns → length ns ≤ length xs
    → Left ns xs first (placed out at (bytes_of (get_or ns i 0) (get_or xs i 0))) (at + get_or ns i 0) (i + 1)
unfolding total short laid
left_next ns xs first out at i l h k =
    let n = get_or ns i 0 in
    let x = get_or xs i 0 in
    let rest = laid (drop (i + 1) ns) (drop (i + 1) xs) in
    let hx : i < length xs = omega arith in
    let s : leb n 8 && short (drop (i + 1) ns) ≡ true = rw (next ns i h) at l.narrow in
    let r : at + (n + total (drop (i + 1) ns)) ≡ length out = rw (next ns i h) at l.room in
    let e : placed out at (bytes_of n x ++ rest) ≡ placed first 0 (laid ns xs) = rw (next ns i h, next xs i hx) at l.is in
    let kept : length (drop (i + 1) ns) ≤ length (drop (i + 1) xs) = simp length-drop (omega arith) in
    let m : length rest ≡ total (drop (i + 1) ns) = length_laid (drop (i + 1) ns) (drop (i + 1) xs) kept in
    let fits : at + length (bytes_of n x) + length rest ≤ length out = rw (length_bytes n x) (omega arith) in
    record {
      room = rw (length_placed out at (bytes_of n x)) (omega arith);
      same = length_placed out at (bytes_of n x) ∙ l.same;
      narrow = ((and-eq-true_iff (leb n 8) (short (drop (i + 1) ns))).0 s).1;
      is = ap (λ (b : ℕ). placed (placed out at (bytes_of n x)) (at + b) rest) (sym (length_bytes n x)) ∙ placed_more out at (bytes_of n x) rest fits ∙ e;
    }

-- nothing is left
pub left_none : (ns xs first out : List ℕ) (at i : ℕ) → Left ns xs first out at i → i ≡ length ns → length ns ≤ length xs
    → total ns ≡ length first → out ≡ laid ns xs
unfolding laid
left_none ns xs first out at i l h k t =
    let all = laid ns xs in
    let m : length all ≡ length first = length_laid ns xs k ∙ t in
    let d : drop i ns ≡ [] = ap (λ (j : ℕ). drop j ns) h ∙ drop-length ns in
    let e : placed out at [] ≡ placed first 0 all = rw d at l.is in
    sym (placed_nil out at) ∙ e ∙ placed_whole first all m

-- a row of the same type with these bits
abbrev again : Row → ℕ → Row
again (natural n x) b = natural n b
again (integer n z) b = integer n (signed (8 * n) b)

-- rows of the same types, read from a place on
unfoldable pub read_rows : List Row → ℕ → List ℕ → List Row
read_rows [] at d = []
read_rows (r ∷ rs) at d = again r (number_at d at (width r)) ∷ read_rows rs (at + width r) d

-- the bytes of all rows
unfoldable pub widths : List Row → ℕ
widths [] = 0
widths (r ∷ rs) = width r + widths rs

-- as many bits as bytes, and half of that
pow_8 : (n : ℕ) → 2 ^ (8 * n) ≡ 256 ^ n
pow_8 zero = refl
pow_8 (suc n) = let e : 8 * suc n ≡ 8 * n + 8 = omega arith in rw (e, pow-add 2 (8 * n) 8, pow-suc 256 n, pow_8 n)

half : (n : ℕ) → 0 < n → 256 ^ n / 2 ≡ 2 ^ (8 * n - 1)
half zero h = absurd (omega arith)
half (suc n) h =
    let e : 8 * suc n ≡ suc (8 * suc n - 1) = omega arith in
    let p : 256 ^ suc n ≡ 2 ^ (8 * suc n - 1) * 2 = sym (pow_8 (suc n)) ∙ ap (λ (k : ℕ). 2 ^ k) e ∙ pow-suc 2 (8 * suc n - 1) in
    omega arith

-- the number between what stands before and after it
number_between : (p s t : List ℕ) (n : ℕ) → length s ≡ n → number_at (p ++ (s ++ t)) (length p) n ≡ number_of s
number_between p s t n e =
    let h : length p + n ≤ length (p ++ (s ++ t)) = simp length-append (omega arith) in
    number_in (p ++ (s ++ t)) (length p) n h ∙ rw (drop_at p (s ++ t) (length p) refl, take_at s t n e)

-- the bits of a value that its type holds are within its width, and stand for it
held_bits : (r : Row) → Held r → bits r < 256 ^ width r
unfolding unsigned
held_bits (natural n x) h = h
held_bits (integer n (pos x)) h = omega arith
held_bits (integer n (negsuc x)) h = omega (arith, pow_8 n)

again_bits : (r : Row) → Held r → again r (bits r) ≡ r
again_bits (natural n x) h = refl
again_bits (integer zero z) h = absurd (omega arith)
again_bits (integer (suc n) z) h =
    ap (integer (suc n)) (signed_unsigned (8 * suc n) z (omega arith) (rw (half (suc n) (omega arith)) at h))

-- the bits that were read are those to write
again_bytes : (r : Row) (b : ℕ) → b < 256 ^ width r → bytes_of (width (again r b)) (bits (again r b)) ≡ bytes_of (width r) b
again_bytes (natural n x) b h = refl
again_bytes (integer n z) b h = ap (bytes_of n) (unsigned_signed (8 * n) b (rw (pow_8 n) h))

-- reading what was written gives the rows
pub read_joined : (p : List ℕ) (rs : List Row) → AllHeld rs → read_rows rs (length p) (p ++ joined rs) ≡ rs
unfolding read_rows joined
read_joined p [] h = refl
read_joined p (r ∷ rs) h =
    let s = bytes_of (width r) (bits r) in
    let l : length s ≡ width r = length_bytes (width r) (bits r) in
    let n : number_at (p ++ (s ++ joined rs)) (length p) (width r) ≡ bits r =
    number_between p s (joined rs) (width r) l ∙ number_bytes (width r) (bits r) (held_bits r h.0) in
    let m : length (p ++ s) ≡ length p + width r = length-append p s ∙ ap (λ (k : ℕ). length p + k) l in
    let t : read_rows rs (length p + width r) (p ++ (s ++ joined rs)) ≡ rs = rw (m, append_assoc) at (read_joined (p ++ s) rs h.1) in
    (λ k. again r (n k) ∷ t k) ∙ ap (λ (x : Row). x ∷ rs) (again_bits r h.0)

-- writing what was read gives the data
pub joined_read : (rs : List Row) (at : ℕ) (d : List ℕ) → at + widths rs ≡ length d → ((i : ℕ) → i < length d → get_or d i 0 < 256)
    → joined (read_rows rs at d) ≡ drop at d
unfolding read_rows joined widths
joined_read [] at d e h = let z : at ≡ length d = sym (add-zero at) ∙ e in sym (ap (λ (k : ℕ). drop k d) z ∙ drop-length d)
joined_read (r ∷ rs) at d e h =
    let n = width r in
    let s : List ℕ = take n (drop at d) in
    let p = part_bytes d at n h (omega arith) in
    let b : number_at d at n ≡ number_of s = number_in d at n (omega arith) in
    let lt = part_lt d at n h (omega arith) in
    let one : bytes_of n (number_of s) ≡ s = rw p.0 at (bytes_number s p.1) in
    let t : joined (read_rows rs (at + n) d) ≡ drop n (drop at d) = joined_read rs (at + n) d (omega arith) h ∙ sym (drop-drop n at d) in
    rw (b, again_bytes r (number_of s) lt, one, t) (take-append-drop n (drop at d))

-- the value of the row at a place
abbrev pub nat : List Row → ℕ → ℕ
nat rs i = value (get_or rs i (natural 0 0))
  where
    value : Row → ℕ
    value (natural n x) = x
    value (integer n z) = 0

abbrev pub int : List Row → ℕ → ℤ
int rs i = value (get_or rs i (natural 0 0))
  where
    value : Row → ℤ
    value (natural n x) = pos 0
    value (integer n z) = z
