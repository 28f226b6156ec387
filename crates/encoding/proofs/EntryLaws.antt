-- Laws of entries one after the other, over any header and width: reading one more, laying out one more, and both ways.
use mathlib.Core.Path.{◌≡◌, refl, sym, ap, ◌∙◌}
use mathlib.Core.Bool.{Bool, true, false, cond, ◌&&◌, and-eq-true_iff}
use mathlib.Core.List.{List, [], ◌∷◌, ◌++◌, append_assoc, append-nil}
use mathlib.Core.Option.{some}
use borrow.Author.Tests.{eqb-true, eqb-false, leb-true, le-leb, lt-ltb, le-ltb}
use Prim.Native.Nat.{ℕ, zero, suc, ◌+◌, ◌*◌, ◌-◌, ◌/◌, ◌%◌, ◌≤◌, ◌<◌}
use native.Mathlib.Nat.{add-zero, add-suc, mul-zero, mul-suc, mul-le-mul_left, mul-add}
use native.Mathlib.Numerals.{add-one}
use native.Mathlib.Omega.{arith}
use lib.Dec.{eqb, leb, ltb}
use lib.ListN.{length, take, drop, get_or, set, replicate, length-append, length-drop}
use Rattle.std.proofs.lemmas.List.{take-take, drop-take}
use lib.Seq.{set_at, append_snoc, take_all, take-add, take-suc, take-append-le, take-append-add, take_at, length-take-le}
use lib.Seq.{drop-append-le, drop_at, drop-drop, get_or_at, get_or-take, get_or-drop}
use Rattle.octets.specs.Placing.{placed}
use Rattle.octets.proofs.PlacingLaws.{length_placed, placed_more, placed_fits, placed_whole}
use Rattle.octets.proofs.DeliveryLaws.{placed_back}
use Rattle.octets.specs.Bytes.{byte, Bytes}
use Rattle.kinds.specs.Kinds.{table, row_in, entries, allows, length_ok, content}
use Rattle.encoding.proofs.AcceptedLaws.{accepted_parts}
use Rattle.encoding.specs.Entries.{Series, firsts, laid_out, entry_slice, entries_of, entries_data, Long, entries_into, kept_entries}

pub length_firsts : {A : Type 0} (f : ℕ → A) (n : ℕ) → length (firsts f n) ≡ n
unfolding firsts
length_firsts f zero = refl
length_firsts f (suc n) = length-append (firsts f n) (f n ∷ []) ∙ ap (λ (m : ℕ). m + 1) (length_firsts f n) ∙ add-one n

-- a store at i, in a list that is filled up to i
fill_more : {A : Type 0} (f : ℕ → A) (b : A) (m i : ℕ) → i < m
    → set (firsts f i ++ replicate (m - i) b) i (f i) ≡ firsts f (i + 1) ++ replicate (m - (i + 1)) b
unfolding firsts
fill_more f b m i h =
    let e : m - i ≡ suc (m - suc i) = omega arith in
    rw (e, set_at (firsts f i) b (replicate (m - suc i) b) (f i) i (length_firsts f i), add-one)
    (sym (append_snoc (firsts f i) (f i) (replicate (m - suc i) b)))

module _ {A : Type 0} where
  pub firsts_same : (f h : ℕ → A) (n : ℕ) → ((i : ℕ) → i < n → f i ≡ h i) → firsts f n ≡ firsts h n
  unfolding firsts
  firsts_same f h zero e = refl
  firsts_same f h (suc n) e = rw (firsts_same f h n (λ i l. e i (omega arith)), e n (omega arith))

  pub firsts_take : (l : List A) (z : A) (n : ℕ) → n ≤ length l → firsts (λ i. get_or l i z) n ≡ take n l
  unfolding firsts
  firsts_take l z zero h = refl
  firsts_take l z (suc n) h = rw (firsts_take l z n (omega arith), take-suc l n z (omega arith))

  -- within a list the default plays no part
  pub get_d_any : (l : List A) (i : ℕ) (y z : A) → i < length l → get_or l i y ≡ get_or l i z
  get_d_any [] i y z h = absurd (omega arith)
  get_d_any (x ∷ l) zero y z h = refl
  get_d_any (x ∷ l) (suc i) y z h = get_d_any l i y z (omega arith)

  pub get_d_firsts : (f : ℕ → A) (z : A) (n i : ℕ) (r : List A) → i < n → get_or (firsts f n ++ r) i z ≡ f i
  unfolding firsts
  get_d_firsts f z zero i r h = absurd (omega arith)
  get_d_firsts f z (suc n) i r h = rw (append_assoc (firsts f n) (f n ∷ []) r) (go (eqb i n) refl (λ l. get_d_firsts f z n i (f n ∷ r) l))
    where
      go : (t : Bool) → eqb i n ≡ t → (i < n → get_or (firsts f n ++ (f n ∷ r)) i z ≡ f i) → get_or (firsts f n ++ (f n ∷ r)) i z ≡ f i
      go true e ih = let q : i ≡ n = eqb-true i n e in rw q (get_or_at (firsts f n) (f n) r z n (length_firsts f n))
      go false e ih = let q = eqb-false i n e in ih (omega arith)

module _ (g : ℕ → List ℕ) (w : ℕ) where
  pub length_laid : (n : ℕ) → ((i : ℕ) → i < n → length (g i) ≡ w) → length (laid_out g n) ≡ w * n
  unfolding laid_out
  length_laid zero long = sym (mul-zero w)
  length_laid (suc n) long =
      rw (length-append (laid_out g n) (g n), length_laid n (λ i l. long i (omega arith)), long n (omega arith)) (sym (mul-suc w n))

  -- the bytes at i among those that were laid out
  pub laid_at : (n i : ℕ) → ((j : ℕ) → j < n → length (g j) ≡ w) → i < n → take w (drop (w * i) (laid_out g n)) ≡ g i
  unfolding laid_out
  laid_at zero i long l = absurd (omega arith)
  laid_at (suc n) i long l = go (eqb i n) refl (λ k. laid_at n i (λ j m. long j (omega arith)) k)
    where
      all : length (laid_out g n) ≡ w * n
      all = length_laid n (λ j m. long j (omega arith))

      go : (t : Bool) → eqb i n ≡ t → (i < n → take w (drop (w * i) (laid_out g n)) ≡ g i)
          → take w (drop (w * i) (laid_out g n ++ g n)) ≡ g i
      go true e ih =
          let q : i ≡ n = eqb-true i n e in
          rw (q, drop_at (laid_out g n) (g n) (w * n) all) (take_all w (g n) (omega (arith, long n (omega arith))))
      go false e ih =
          let k : i < n = (let q = eqb-false i n e in omega arith) in
          let m : w * i + w ≤ w * n = omega (arith, mul-suc w i, mul-le-mul_left w k) in
          let a : w * i ≤ length (laid_out g n) = omega (arith, all) in
          let b : w ≤ length (drop (w * i) (laid_out g n)) = rw length-drop (omega (arith, all)) in
          rw (drop-append-le (w * i) (laid_out g n) (g n) a, take-append-le w (drop (w * i) (laid_out g n)) (g n) b) (ih k)

  -- those of g i, placed right after the ones before them
  pub laid_next : (b : List ℕ) (h i at : ℕ) → ((j : ℕ) → j < i + 1 → length (g j) ≡ w) → at ≡ h + w * i → at + w ≤ length b
      → (all : List ℕ) → all ≡ placed b h (laid_out g i) → (x : List ℕ) → x ≡ g i → placed all at x ≡ placed b h (laid_out g (i + 1))
  unfolding laid_out
  laid_next b h i at long p r all q x y =
      let l = length_laid i (λ j m. long j (omega arith)) in
      let t : at ≡ h + length (laid_out g i) = omega arith in
      let k : h + length (laid_out g i) + length (g i) ≤ length b = omega (arith, long i (omega arith)) in
      (λ k. placed (q k) (t k) (y k)) ∙ rw add-one (placed_more b h (laid_out g i) (g i) k)

-- all the pieces of some data
pub all_pieces : (w h : ℕ) (d : List ℕ) (n : ℕ) → laid_out (λ i. take w (drop (h + w * i) d)) n ≡ take (w * n) (drop h d)
unfolding laid_out
all_pieces w h d zero = rw mul-zero
all_pieces w h d (suc n) = rw (all_pieces w h d n, mul-suc, take-add (w * n) w (drop h d), drop-drop)

pub laid_same : (g h : ℕ → List ℕ) (n : ℕ) → ((i : ℕ) → i < n → g i ≡ h i) → laid_out g n ≡ laid_out h n
unfolding laid_out
laid_same g h zero e = refl
laid_same g h (suc n) e = rw (laid_same g h n (λ i l. e i (omega arith)), e n (omega arith))

-- two layouts, one after the other
pub laid_join : (g h : ℕ → List ℕ) (n m : ℕ) → laid_out g n ++ laid_out h m ≡ laid_out (λ i. cond (ltb i n) (g i) (h (i - n))) (n + m)
unfolding laid_out
laid_join g h n zero =
    append-nil (laid_out g n)
    ∙ laid_same g (λ i. cond (ltb i n) (g i) (h (i - n))) n (λ i l. sym (ap (λ (t : Bool). cond t (g i) (h (i - n))) (lt-ltb i n l)))
    ∙ ap (laid_out (λ i. cond (ltb i n) (g i) (h (i - n)))) (sym (add-zero n))
laid_join g h n (suc m) =
    let one : h m ≡ cond (ltb (n + m) n) (g (n + m)) (h (n + m - n)) =
    ap h (omega arith) ∙ sym (ap (λ (t : Bool). cond t (g (n + m)) (h (n + m - n))) (le-ltb (n + m) n (omega arith))) in
    sym (append_assoc (laid_out g n) (laid_out h m) (h m))
    ∙ (λ k. laid_join g h n m k ++ one k)
    ∙ ap (laid_out (λ i. cond (ltb i n) (g i) (h (i - n)))) (sym (add-suc n m))

module _ {E : Type 0} (s : Series E) where
  pub entry_length : (d : List ℕ) (i : ℕ) → s.header + s.width * i + s.width ≤ length d → length (entry_slice s d i) ≡ s.width
  entry_length d i h = length-take-le s.width (drop (s.header + s.width * i) d) (rw length-drop (omega arith))

  pub entry_byte : (d : List ℕ) (i j : ℕ) → j < s.width → byte (entry_slice s d i) j ≡ byte d (s.header + s.width * i + j)
  entry_byte d i j l = get_or-take s.width (drop (s.header + s.width * i) d) j 0 l ∙ get_or-drop (s.header + s.width * i) d j 0

  pub entry_bytes_lem : (d : List ℕ) (i : ℕ) → s.header + s.width * i + s.width ≤ length d → Bytes d → Bytes (entry_slice s d i)
  entry_bytes_lem d i h y j l =
      let k : j < s.width = omega (arith, entry_length d i h) in
      rw (entry_byte d i j k) (y (s.header + s.width * i + j) (omega arith))

  -- the bytes of the entries that are left past the first i of n
  abbrev pub bytes_left : List ℕ → ℕ → ℕ → List ℕ
  bytes_left d n i = take (s.width * (n - i)) (drop (s.header + s.width * i) d)

  -- those of one entry come off their front
  pub next_entry : (d : List ℕ) (n i : ℕ) → 0 < s.width → (left x rest : List ℕ) → left ≡ bytes_left d n i → left ≡ x ++ rest
      → length x ≡ s.width → (i < n) × (x ≡ entry_slice s d i) × (rest ≡ bytes_left d n (i + 1))
  next_entry d n i wide left x rest q e l = go (n - i) refl
    where
      from : List ℕ
      from = drop (s.header + s.width * i) d

      go : (m : ℕ) → n - i ≡ m → (i < n) × (x ≡ entry_slice s d i) × (rest ≡ bytes_left d n (i + 1))
      go zero z =
          let none : x ++ rest ≡ [] = sym e ∙ q ∙ ap (λ (k : ℕ). take (s.width * k) from) z ∙ ap (λ (k : ℕ). take k from) (mul-zero s.width) in
          absurd (omega (arith, l, ap length none, length-append x rest))
      go (suc m) z =
          let all : x ++ rest ≡ take (s.width + s.width * m) from =
          sym e ∙ q ∙ ap (λ (k : ℕ). take (s.width * k) from) z ∙ ap (λ (k : ℕ). take k from) (omega (arith, mul-suc s.width m)) in
          let next : m ≡ n - (i + 1) = omega arith in
          let place : s.header + s.width * i + s.width ≡ s.header + s.width * (i + 1) = omega (arith, mul-suc s.width i, add-one i) in (
            omega arith,
            sym (take_at x rest s.width l) ∙ ap (take s.width) all ∙ take-take s.width (s.width + s.width * m) from (omega arith),
            sym (drop_at x rest s.width l)
                ∙ ap (drop s.width) all
                ∙ drop-take s.width (s.width * m) from
                ∙ (λ k. take (s.width * next k) (drop-drop s.width (s.header + s.width * i) d k))
                ∙ ap (λ (k : ℕ). take (s.width * (n - (i + 1))) (drop k d)) place,
          )

  -- and where there is none for one more, there is none left
  pub no_entry : (d : List ℕ) (n i : ℕ) → s.header + s.width * n ≤ length d → i ≤ n → (left : List ℕ) → left ≡ bytes_left d n i
      → length left < s.width → i ≡ n
  no_entry d n i room h left q l = go (n - i) refl
    where
      go : (m : ℕ) → n - i ≡ m → i ≡ n
      go zero z = omega arith
      go (suc m) z =
          let n_is : n ≡ i + suc m = omega arith in
          let all : s.width * n ≡ s.width * i + s.width * suc m = ap (λ (k : ℕ). s.width * k) n_is ∙ mul-add s.width i (suc m) in
          let long : length left ≡ s.width * suc m =
          ap length q
          ∙ ap (λ (k : ℕ). length (take (s.width * k) (drop (s.header + s.width * i) d))) z
          ∙ length-take-le (s.width * suc m) (drop (s.header + s.width * i) d) (rw length-drop (omega arith)) in
          absurd (omega (arith, mul-suc s.width m))

  -- no entry read yet
  pub read_none : (d : List ℕ) → replicate s.most s.blank ≡ entries_of s d 0
  unfolding firsts
  read_none d = let e : s.most - 0 ≡ s.most = omega arith in rw e

  -- the entry at i, read from its slice of the data, stored after those before it
  pub read_more : (d : List ℕ) (i from : ℕ) → i < s.most → from ≡ s.header + s.width * i → (es : List E) → es ≡ entries_of s d i
      → (e : E) → e ≡ s.entry_of (take (from + s.width - from) (drop from d)) → set es i e ≡ entries_of s d (i + 1)
  read_more d i from l p es q e r =
      let n : from + s.width - from ≡ s.width = omega arith in
      (λ k. set (q k) i ((r ∙ (λ m. s.entry_of (take (n m) (drop (p m) d)))) k))
      ∙ fill_more (λ j. s.entry_of (entry_slice s d j)) s.blank s.most i l

  pub length_entries : (es : List E) (n : ℕ) → Long s es n → length (entries_data s es n) ≡ s.width * n
  length_entries es n long = length_laid (λ i. s.entry_data (get_or es i s.blank)) s.width n long

  pub long_more : (es : List E) (i : ℕ) → Long s es i → length (s.entry_data (get_or es i s.blank)) ≡ s.width → Long s es (i + 1)
  long_more es i long one j h = go (eqb j i) refl
    where
      go : (t : Bool) → eqb j i ≡ t → length (s.entry_data (get_or es j s.blank)) ≡ s.width
      go true e = let q : j ≡ i = eqb-true j i e in rw q one
      go false e = let q = eqb-false j i e in long j (omega arith)

  -- one entry more, placed right after those before it
  pub laid_more : (b : List ℕ) (es : List E) (i at : ℕ) → Long s es (i + 1) → at ≡ s.header + s.width * i → at + s.width ≤ length b
      → (all : List ℕ) → all ≡ placed b s.header (entries_data s es i) → (x : List ℕ) → x ≡ s.entry_data (get_or es i s.blank)
      → placed all at x ≡ placed b s.header (entries_data s es (i + 1))
  laid_more b es i at = laid_next (λ j. s.entry_data (get_or es j s.blank)) s.width b s.header i at

  -- all entries are placed: the header's bytes, and theirs
  pub laid_done : (b : List ℕ) (es : List E) (n : ℕ) → Long s es n → s.header + s.width * n ≤ length b
      → take (s.header + s.width * n) (placed b s.header (entries_data s es n)) ≡ take s.header b ++ entries_data s es n
  laid_done b es n long h =
      let l = length_entries es n long in
      let d = entries_data s es n in
      let k : length (take s.header b) ≡ s.header = length-take-le s.header b (omega arith) in
      let t : s.header + s.width * n ≡ length (take s.header b) + length d = omega arith in
      let rest = drop (s.header + length d) b in
      rw (placed_fits b s.header d (omega arith), t, take-append-add (take s.header b) (d ++ rest) (length d), take_at d rest (length d) refl)

  pub laid_whole : (b : List ℕ) (es : List E) (n : ℕ) → Long s es n → s.header + s.width * n ≡ length b
      → placed b s.header (entries_data s es n) ≡ take s.header b ++ entries_data s es n
  laid_whole b es n long h =
      let l = length_placed b s.header (entries_data s es n) in
      sym (take_all (s.header + s.width * n) (placed b s.header (entries_data s es n)) (omega arith))
      ∙ laid_done b es n long (omega arith)

  -- the first n entries, laid out in a buffer with room for as many, are its first bytes
  pub laid_back : (b : List ℕ) (es : List E) (n : ℕ) → n ≤ length es → Long s (take n es) (length (take n es)) → s.width * n ≤ length b
      → take (s.width * n) (entries_into s (take n es) b) ≡ entries_data s es n
  laid_back b es n h long room =
      let l : length (take n es) ≡ n = length-take-le n es h in
      let same : entries_data s (take n es) n ≡ entries_data s es n =
      laid_same (λ i. s.entry_data (get_or (take n es) i s.blank)) (λ i. s.entry_data (get_or es i s.blank)) n
      (λ i k. ap s.entry_data (get_or-take n es i s.blank k)) in
      let w : length (entries_data s es n) ≡ s.width * n = ap length (sym same) ∙ length_entries (take n es) n (λ i k. long i (omega arith)) in
      rw (l, le-leb (0 + s.width * n) (length b) (omega arith), same)
      (ap (λ (k : ℕ). take k (placed b 0 (entries_data s es n))) (sym w) ∙ placed_back b (entries_data s es n) (omega arith))

  -- all of the entries, in a buffer of just their length
  pub laid_all : (b : List ℕ) (es : List E) → Long s es (length es) → s.width * length es ≡ length b
      → entries_into s es b ≡ entries_data s es (length es)
  laid_all b es long room =
      rw (le-leb (0 + s.width * length es) (length b) (omega arith))
      (placed_whole b (entries_data s es (length es)) (length_entries es (length es) long ∙ room))

  -- what is read of one entry is read of all of them
  pub read_laid : (Fits : E → Type 0) → ((e : E) → Fits e → s.entry_of (s.entry_data e) ≡ e)
      → (top : List ℕ) → length top ≡ s.header → (es : List E) (n : ℕ) → Long s es n → n ≤ length es
      → ((i : ℕ) → i < n → Fits (get_or es i s.blank))
      → entries_of s (top ++ entries_data s es n) n ≡ kept_entries s es n
  read_laid Fits one top t es n long h fit =
      let g : ℕ → List ℕ = λ i. s.entry_data (get_or es i s.blank) in
      let at : (i : ℕ) → i < n → entry_slice s (top ++ laid_out g n) i ≡ g i = λ i k.
      ap (take s.width) (sym (drop-drop (s.width * i) s.header (top ++ laid_out g n)))
      ∙ (λ m. take s.width (drop (s.width * i) (drop_at top (laid_out g n) s.header t m)))
      ∙ laid_at g s.width n i long k in
      ap (λ (l : List E). l ++ replicate (s.most - n) s.blank)
      (firsts_same (λ i. s.entry_of (entry_slice s (top ++ laid_out g n) i)) (λ i. get_or es i s.blank) n
      (λ i k. ap s.entry_of (at i k) ∙ one (get_or es i s.blank) (fit i k))
      ∙ firsts_take es s.blank n h)

  -- what is written of one entry is written of all of them
  pub laid_read : (d : List ℕ) (n : ℕ) → s.header + s.width * n ≤ length d
      → ((i : ℕ) → s.header + s.width * i + s.width ≤ length d → s.entry_data (s.entry_of (entry_slice s d i)) ≡ entry_slice s d i)
      → entries_data s (entries_of s d n) n ≡ take (s.width * n) (drop s.header d)
  laid_read d n h one =
      laid_same (λ i. s.entry_data (get_or (entries_of s d n) i s.blank)) (entry_slice s d) n
      (λ i k. ap s.entry_data (get_d_firsts (λ j. s.entry_of (entry_slice s d j)) s.blank n i _ k)
      ∙ one i (omega (arith, mul-suc s.width i, mul-le-mul_left s.width k)))
      ∙ all_pieces s.width s.header d n

-- acceptable data of a kind with entries is a header and a whole number of entries, at most so many
module _ (id h w m : ℕ) (f : List ℕ → Bool) (d : List ℕ) where
  pub entry_count : row_in table id ≡ some (entries id h w m f) → eqb w 0 ≡ false → content id d ≡ 0
      → (h ≤ length d) × ((length d - h) % w ≡ 0) × ((length d - h) / w ≤ m)
  unfolding length_ok allows
  entry_count row wide c =
      let n = length d - h in
      let p = (and-eq-true_iff (allows (entries id h w m f).kind (length d)) _).0 (accepted_parts id (entries id h w m f) d row c).0 in
      let a : leb h (length d) && eqb (n % w) 0 && leb (n / w) m ≡ true = p.0 in
      let q = (and-eq-true_iff (leb h (length d) && eqb (n % w) 0) (leb (n / w) m)).0 a in
      let r = (and-eq-true_iff (leb h (length d)) (eqb (n % w) 0)).0 q.0 in
      (leb-true h (length d) r.0, eqb-true (n % w) 0 r.1, leb-true (n / w) m q.1)
