-- Laws of the rearrangement by column: its length, where each byte goes, the way back, and what the code goes by.
use mathlib.Core.Bool.{Bool, true, false, cond, ◌&&◌, and-eq-true_iff}
use mathlib.Core.List.{List, [], ◌++◌, append-nil}
use mathlib.Core.Path.{◌≡◌, refl, sym, ap, ◌∙◌}
use Prim.Native.Nat.{ℕ, ◌+◌, ◌*◌, ◌-◌, ◌/◌, ◌%◌, ◌≤◌, ◌<◌}
use native.Mathlib.Nat.{le_refl, zero-add, zero-mul, one-mul, mul_comm, mul-suc, mul-le-mul_left, div-add-mod}
use native.Mathlib.Numerals.{add-one}
use native.Mathlib.Omega.{arith}
use borrow.Rule.Slice.PartMut.{put_mid}
use borrow.Author.Tests.{leb-true, le-leb, lt-leb, eqb-true, eq-eqb, ne_eqb}
use lib.Dec.{eqb, leb}
use lib.ListN.{length, take, drop, set, length-append, length-drop, take-append-drop}
use lib.Seq.{take_all, get_or-take, get_or-drop, length-take-le}
use Rattle.std.proofs.lemmas.List.{drop_all}
use Rattle.octets.specs.Bytes.{byte}
use Rattle.octets.specs.Placing.{placed}
use Rattle.octets.proofs.PlacingLaws.{placed_nil, placed_part, placed_start, placed_more, placed_snoc}
use Rattle.encoding.specs.Entries.{firsts, laid_out}
use Rattle.encoding.proofs.EntryLaws.{length_firsts, firsts_same, firsts_take, get_d_firsts, length_laid, laid_at, laid_next, laid_same, all_pieces}
use Rattle.columns.specs.Columns.{column, crossed, whole, count_of, by_columns, by_rows}

pub length_column : (n w : ℕ) (s : List ℕ) (j : ℕ) → length (column n w s j) ≡ n
length_column n w s j = length_firsts (λ i. byte s (w * i + j)) n

pub length_crossed : (n w : ℕ) (s : List ℕ) → length (crossed n w s) ≡ n * w
unfolding crossed
length_crossed n w s = length_laid (column n w s) n w (λ j _. length_column n w s j)

-- byte j of entry i is byte i of column j
pub crossed_byte : (n w : ℕ) (s : List ℕ) (i j : ℕ) → i < n → j < w → byte (crossed n w s) (n * j + i) ≡ byte s (w * i + j)
unfolding crossed
crossed_byte n w s i j hi hj =
    sym (get_or-take n (drop (n * j) (crossed n w s)) i 0 hi ∙ get_or-drop (n * j) (crossed n w s) i 0)
    ∙ ap (λ l. byte l i) (laid_at (column n w s) n w j (λ k _. length_column n w s k) hj)
    ∙ no_tail (λ k. byte s (w * k + j))
  where
    no_tail : (f : ℕ → ℕ) → byte (firsts f n) i ≡ f i
    no_tail f = ap (λ l. byte l i) (sym (append-nil (firsts f n))) ∙ get_d_firsts f 0 n i [] hi

-- the bytes of an entry, one by one
row : (w : ℕ) (s : List ℕ) (i : ℕ) → w * i + w ≤ length s → firsts (λ j. byte s (w * i + j)) w ≡ take w (drop (w * i) s)
row w s i h =
    firsts_same (λ j. byte s (w * i + j)) (λ j. byte (drop (w * i) s) j) w (λ j _. sym (get_or-drop (w * i) s j 0))
    ∙ firsts_take (drop (w * i) s) 0 w (rw length-drop (omega arith))

opened : (n w : ℕ) (s : List ℕ) → crossed n w s ≡ laid_out (column n w s) w
unfolding crossed
opened n w s = refl

-- there and back, for any width and number
pub crossed_back : (n w : ℕ) (s : List ℕ) → length s ≡ w * n → crossed w n (crossed n w s) ≡ s
crossed_back n w s h =
    opened w n (crossed n w s)
    ∙ laid_same (column w n (crossed n w s)) (λ i. take w (drop (0 + w * i) s)) n one
    ∙ all_pieces w 0 s n
    ∙ take_all (w * n) s (omega arith)
  where
    one : (i : ℕ) → i < n → column w n (crossed n w s) i ≡ take w (drop (0 + w * i) s)
    one i l =
        firsts_same (λ j. byte (crossed n w s) (n * j + i)) (λ j. byte s (w * i + j)) w (λ j k. crossed_byte n w s i j l k)
        ∙ row w s i (omega (arith, mul-suc w i, mul-le-mul_left w l))
        ∙ ap (λ k. take w (drop k s)) (sym (zero-add (w * i)))

-- what the test of a length shows
pub whole_parts : (h w n : ℕ) → whole h w n ≡ true → (h ≤ n) × (0 < w) × (n ≡ h + w * ((n - h) / w))
unfolding whole
whole_parts h w n e =
    let a = (and-eq-true_iff (leb h n && leb 1 w) (eqb ((n - h) % w) 0)).0 e in
    let b = (and-eq-true_iff (leb h n) (leb 1 w)).0 a.0 in
    let l = leb-true h n b.0 in
    let z = eqb-true ((n - h) % w) 0 a.1 in
    (l, omega (arith, leb-true 1 w b.1), omega (arith, div-add-mod (n - h) w))

pub whole_of : (h w n : ℕ) → h ≤ n → 1 ≤ w → (n - h) % w ≡ 0 → whole h w n ≡ true
unfolding whole
whole_of h w n l p z = λ k. le-leb h n l k && le-leb 1 w p k && eq-eqb ((n - h) % w) 0 z k

-- a header cut short, and a byte too many
pub whole_short : (h w n : ℕ) → n < h → whole h w n ≡ false
unfolding whole
whole_short h w n l = λ k. lt-leb h n l k && leb 1 w && eqb ((n - h) % w) 0

pub whole_more : (h w n : ℕ) → h ≤ n → 1 ≤ w → ((n - h) % w ≡ 0 → ⊥) → whole h w n ≡ false
unfolding whole
whole_more h w n l p z = λ k. le-leb h n l k && le-leb 1 w p k && ne_eqb ((n - h) % w) 0 z k

-- entries of no width
pub whole_none : (h n : ℕ) → whole h 0 n ≡ false
unfolding whole
whole_none h n = go (leb h n)
  where
    go : (t : Bool) → t && false && eqb ((n - h) % 0) 0 ≡ false
    go true = refl
    go false = refl

module _ (h w : ℕ) (d : List ℕ) where
  -- whole entries
  module _ (e : whole h w (length d) ≡ true) where
    pub columns_whole : by_columns h w d ≡ take h d ++ crossed (count_of h w d) w (drop h d)
    unfolding by_columns
    columns_whole = λ k. cond (e k) (take h d ++ crossed (count_of h w d) w (drop h d)) d

    pub rows_whole : by_rows h w d ≡ take h d ++ crossed w (count_of h w d) (drop h d)
    unfolding by_rows
    rows_whole = λ k. cond (e k) (take h d ++ crossed w (count_of h w d) (drop h d)) d

    pub header_long : length (take h d) ≡ h
    header_long = length-take-le h d (whole_parts h w (length d) e).0

    pub behind : length (drop h d) ≡ w * count_of h w d
    behind = length-drop h d ∙ omega (arith, (whole_parts h w (length d) e).2)

  -- and other data
  module _ (e : whole h w (length d) ≡ false) where
    pub columns_not : by_columns h w d ≡ d
    unfolding by_columns
    columns_not = λ k. cond (e k) (take h d ++ crossed (count_of h w d) w (drop h d)) d

    pub rows_not : by_rows h w d ≡ d
    unfolding by_rows
    rows_not = λ k. cond (e k) (take h d ++ crossed w (count_of h w d) (drop h d)) d

  -- the length stays
  same_length : (x : List ℕ) → whole h w (length d) ≡ true → length x ≡ length (drop h d) → length (take h d ++ x) ≡ length d
  same_length x e l = length-append (take h d) x ∙ omega (arith, l, length-drop h d, header_long e, (whole_parts h w (length d) e).0)

  pub length_columns : length (by_columns h w d) ≡ length d
  length_columns = go (whole h w (length d)) refl
    where
      go : (t : Bool) → whole h w (length d) ≡ t → length (by_columns h w d) ≡ length d
      go false e = ap length (columns_not e)
      go true e =
          let x = crossed (count_of h w d) w (drop h d) in
          ap length (columns_whole e)
          ∙ same_length x e (length_crossed (count_of h w d) w (drop h d) ∙ mul_comm (count_of h w d) w ∙ sym (behind e))

  pub length_rows : length (by_rows h w d) ≡ length d
  length_rows = go (whole h w (length d)) refl
    where
      go : (t : Bool) → whole h w (length d) ≡ t → length (by_rows h w d) ≡ length d
      go false e = ap length (rows_not e)
      go true e =
          let x = crossed w (count_of h w d) (drop h d) in
          ap length (rows_whole e) ∙ same_length x e (length_crossed w (count_of h w d) (drop h d) ∙ sym (behind e))

-- whole entries are as long as the columns, and as the rows
pub long_columns : (h w : ℕ) (s : List ℕ) → whole h w (length s) ≡ true → length s ≡ h + w * count_of h w s
long_columns h w s e = (whole_parts h w (length s) e).2

pub long_rows : (h w : ℕ) (s : List ℕ) → whole h w (length s) ≡ true → length s ≡ h + count_of h w s * w
long_rows h w s e = (whole_parts h w (length s) e).2 ∙ ap (λ (k : ℕ). h + k) (mul_comm w (count_of h w s))

-- without entries there is no column
pub crossed_none : (w : ℕ) (s : List ℕ) → crossed 0 w s ≡ []
crossed_none w s = sym (take_all 0 (crossed 0 w s) (omega (arith, length_crossed 0 w s, zero-mul w)))

-- of entries of one byte there is one column, which is they themselves
crossed_one : (s : List ℕ) → crossed (length s) 1 s ≡ s
unfolding crossed laid_out
crossed_one s =
    firsts_same (λ i. byte s (1 * i + 0)) (byte s) (length s) (λ i _. ap (byte s) (omega (arith, one-mul i)))
    ∙ firsts_take s 0 (length s) (le_refl (length s))
    ∙ take_all (length s) s (le_refl (length s))

columns_one : (h : ℕ) (d : List ℕ) → whole h 1 (length d) ≡ true → by_columns h 1 d ≡ d
columns_one h d e =
    let n : count_of h 1 d ≡ length (drop h d) = sym (behind h 1 d e ∙ one-mul (count_of h 1 d)) in
    columns_whole h 1 d e
    ∙ ap (λ k. take h d ++ crossed k 1 (drop h d)) n
    ∙ ap (λ l. take h d ++ l) (crossed_one (drop h d))
    ∙ take-append-drop h d

pub columns_few : (h w : ℕ) (d : List ℕ) → whole h w (length d) ≡ true → w ≤ 1 → by_columns h w d ≡ d
columns_few h w d e n =
    let one : w ≡ 1 = let p = (whole_parts h w (length d) e).1 in omega (arith, p, n) in
    ap (λ k. by_columns h k d) one ∙ columns_one h d (ap (λ k. whole h k (length d)) (sym one) ∙ e)

-- a column as the code gathers it, behind the header
pub column_at : (h n w : ℕ) (s : List ℕ) (j : ℕ) → firsts (λ i. byte s (h + j + w * i)) n ≡ column n w (drop h s) j
column_at h n w s j =
    firsts_same (λ i. byte s (h + j + w * i)) (λ i. byte (drop h s) (w * i + j)) n
    (λ i _. ap (byte s) (omega arith) ∙ sym (get_or-drop h s (w * i + j) 0))

-- one byte of it more
pub gather_next : (f : ℕ → ℕ) (b : List ℕ) (at i to : ℕ) → to ≡ at + i → to < length b
    → (all : List ℕ) → all ≡ placed b at (firsts f i) → set all to (f i) ≡ placed b at (firsts f (i + 1))
unfolding firsts
gather_next f b at i to e h all q =
    ap (λ (l : List ℕ). set l to (f i)) q
    ∙ placed_snoc b at (firsts f i) (f i) to (e ∙ ap (λ k. at + k) (sym (length_firsts f i))) h
    ∙ rw add-one

-- and all of them
pub gather_done : (f : ℕ → ℕ) (b : List ℕ) (i : ℕ) → i ≡ length b → placed b 0 (firsts f i) ≡ firsts f (length b)
gather_done f b i e =
    ap (λ k. placed b 0 (firsts f k)) e
    ∙ placed_start b (firsts f (length b)) (omega (arith, length_firsts f (length b)))
    ∙ ap (λ l. firsts f (length b) ++ l) (drop_all (length (firsts f (length b))) b (omega (arith, length_firsts f (length b))))
    ∙ append-nil (firsts f (length b))

-- n bytes of a buffer that are lent, once they are filled
pub lent_placed : (f : ℕ → ℕ) (b : List ℕ) (at n : ℕ) → at + n ≤ length b
    → (p : List ℕ) → p ≡ firsts f (length (take (at + n - at) (drop at b))) → put_mid at (at + n - at) b p ≡ placed b at (firsts f n)
lent_placed f b at n h p e =
    let m : length (take (at + n - at) (drop at b)) ≡ n =
    length-take-le (at + n - at) (drop at b) (rw length-drop (omega arith)) ∙ omega arith in
    let k = length_firsts f n in
    (λ i. put_mid at (at + sym k i - at) b ((e ∙ ap (firsts f) m) i)) ∙ placed_part b at (firsts f n) (omega (arith, k))

-- byte j of entry i is within n entries of w bytes, and so is column j
pub entry_within : (w n i j : ℕ) → i < n → j < w → j + w * i < w * n
entry_within w n i j hi hj = omega (arith, mul-suc w i, mul-le-mul_left w hi)

pub column_within : (w n j : ℕ) → j < w → n * j + n ≤ w * n
column_within w n j hj = omega (arith, mul-suc n j, mul-le-mul_left n hj, mul_comm w n)

-- j columns behind the header, which is placed in b at `at`
abbrev pub crossed_to : List ℕ → ℕ → ℕ → ℕ → List ℕ → ℕ → ℕ → List ℕ
crossed_to s h n w b at j = placed b (at + h) (laid_out (column n w (drop h s)) j)

pub cross_start : (s : List ℕ) (h n w : ℕ) (b : List ℕ) (at : ℕ) → b ≡ crossed_to s h n w b at 0
unfolding laid_out
cross_start s h n w b at = sym (placed_nil b (at + h))

pub cross_next : (s : List ℕ) (h n w : ℕ) (b : List ℕ) (at j : ℕ) → at + h + w * n ≤ length b → j < w
    → (all : List ℕ) → all ≡ crossed_to s h n w b at j
    → placed all (at + h + n * j) (firsts (λ i. byte s (h + j + w * i)) n) ≡ crossed_to s h n w b at (j + 1)
cross_next s h n w b at j room l all q =
    laid_next (column n w (drop h s)) n b (at + h) j (at + h + n * j) (λ i _. length_column n w (drop h s) i) refl
    (omega (arith, column_within w n j l)) all q _ (column_at h n w s j)

-- all that is placed in the end
module _ (s : List ℕ) (h n w : ℕ) (b : List ℕ) (at : ℕ) where
  pub cross_none : n ≡ 0 → placed b at (take h s) ≡ placed b at (take h s ++ crossed n w (drop h s))
  cross_none z =
      let none : crossed n w (drop h s) ≡ [] = ap (λ k. crossed k w (drop h s)) z ∙ crossed_none w (drop h s) in
      ap (placed b at) (sym (append-nil (take h s)) ∙ ap (λ l. take h s ++ l) (sym none))

  pub cross_out : length s ≡ h + w * n → length b < at + length s → length b < at + length (take h s ++ crossed n w (drop h s))
  cross_out e l =
      let f : length (take h s) ≡ h = length-take-le h s (omega arith) in
      omega (arith, l, length-append (take h s) (crossed n w (drop h s)), f, length_crossed n w (drop h s), mul_comm n w)

  pub cross_done : length s ≡ h + w * n → at + length s ≤ length b
      → crossed_to s h n w (placed b at (take h s)) at w ≡ placed b at (take h s ++ crossed n w (drop h s))
  unfolding crossed
  cross_done e room =
      let f : length (take h s) ≡ h = length-take-le h s (omega arith) in
      ap (λ k. placed (placed b at (take h s)) (at + k) (crossed n w (drop h s))) (sym f)
      ∙ placed_more b at (take h s) (crossed n w (drop h s)) (omega (arith, f, length_crossed n w (drop h s), mul_comm n w))
