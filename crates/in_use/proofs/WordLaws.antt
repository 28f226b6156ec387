-- Laws of 47h data and its word: what acceptable data has, and how the word is built triple by triple.
use mathlib.Core.Path.{◌≡◌, refl, sym, ap, ◌∙◌, subst}
use mathlib.Core.Bool.{Bool, true, false, cond, ◌&&◌, ◌||◌, and-eq-true_iff}
use mathlib.Core.List.{List}
use Prim.Native.Nat.{ℕ, ◌+◌, ◌*◌, ◌^◌, ◌≤◌, ◌<◌}
use native.Mathlib.Omega.{arith}
use borrow.Author.Tests.{eqb-true, eqb-false, eq-eqb, leb-true, ltb-true, ltb-false}
use lib.Dec.{eqb, leb, ltb}
use lib.ListN.{length, get_or}
use Rattle.octets.specs.Bytes.{byte}
use Rattle.satellites.specs.Satellites.{between, satellite}
use Rattle.satellites.specs.Sets.{bit, with_bit}
use Rattle.satellites.proofs.SatelliteLaws.{Satellite, place_lt}
use Rattle.satellites.proofs.BitLaws.{bit_zero, bit_with, bit_past, bits_same}
use Rattle.ranges.specs.Ranges.{in_47}
use Rattle.ranges.proofs.CountLaws.{fails, never, count_some, count_one}
use Rattle.ranges.proofs.OnceLaws.{place_at, valid, valid_is, to_once, at_once}
use Rattle.kinds.specs.Kinds.{content}
use Rattle.kinds.proofs.OnlyLaws.{judged_47}
use Rattle.encoding.specs.Entries.{entry_slice}
use Rattle.encoding.proofs.EntryLaws.{entry_byte, get_d_firsts}
use Rattle.fields_47.specs.Fields.{uses, blank, fields_of}
use Rattle.fields_47.specs.declared.Use.{Use}
use Rattle.fields_47.specs.declared.Uses.{Uses}
use Rattle.in_use.specs.InUse.{triple_at, bit_of, enables, any, word_of}
use Rattle.in_use.proofs.SetLaws.{flag, any_none, any_more, any_of, any_at, set_lt, bit_set_of}

-- ---- questions 11 and 12 of 47h

abbrev pub answer : Bool → Bool → ℕ
answer long inside = cond long (cond inside 0 12) 11

pub acceptable : (d : List ℕ) → content 0x47 d ≡ 0 → (length d ≡ 168) × (in_47 d ≡ true)
acceptable d e = go (eqb (length d) 168) refl (in_47 d) refl (sym (judged_47 d) ∙ e)
  where
    go : (a : Bool) → eqb (length d) 168 ≡ a → (b : Bool) → in_47 d ≡ b → answer a b ≡ 0 → (length d ≡ 168) × (in_47 d ≡ true)
    go true p true q z = (eqb-true (length d) 168 p, q)
    go true p false q z = absurd (omega arith)
    go false p b q z = absurd (omega arith)

pub accepted_47 : (d : List ℕ) → length d ≡ 168 → in_47 d ≡ true → content 0x47 d ≡ 0
accepted_47 d l e = judged_47 d ∙ (λ k. answer (eq-eqb (length d) 168 l k) (e k))

-- ---- the triples of data

module _ (d : List ℕ) where
  pub triple_is : (i : ℕ) → triple_at d i ≡ record { system = byte d (3 * i); number = byte d (3 * i + 1); used = byte d (3 * i + 2) }
  triple_is i =
      λ k. record { system = at 0 (3 * i) (omega arith) (omega arith) k; number = at 1 (3 * i + 1) (omega arith) (omega arith) k; used = at 2 (3 * i + 2) (omega arith) (omega arith) k }
    where
      at : (j n : ℕ) → j < 3 → 3 * i + j ≡ n → byte (entry_slice uses d i) j ≡ byte d n
      at j n l e = entry_byte uses d i j l ∙ ap (byte d) (omega arith)

  pub triple_read : (u : Uses) → u ≡ fields_of d → (i : ℕ) → i < 56 → get_or u.triples i blank ≡ triple_at d i
  triple_read u e i l = ap (λ (v : Uses). get_or v.triples i blank) e ∙ get_d_firsts (triple_at d) blank 56 i _ l

  bit_of_is : (i : ℕ) → bit_of (triple_at d i) ≡ place_at d i
  bit_of_is i = ap bit_of (triple_is i)

-- acceptable data: its triples, and the one at each place
module _ (d : List ℕ) (ok : content 0x47 d ≡ 0) where
  good : (i : ℕ) → i < 56 → valid d i ≡ true
  good = (to_once d (acceptable d ok).1).good

  pub satellite_at : (i : ℕ) → i < 56 → satellite (triple_at d i).system (triple_at d i).number ≡ true
  satellite_at i l =
      let ok = ((and-eq-true_iff (satellite (byte d (3 * i)) (byte d (3 * i + 1))) (between 1 2 (byte d (3 * i + 2)))).0 (good i l)).0 in
      ap (λ (t : Use). satellite t.system t.number) (triple_is d i) ∙ ok

  pub satellite_there : (i : ℕ) → i < 56 → Satellite (triple_at d i).system (triple_at d i).number
  satellite_there i l = subst (λ (t : Use). Satellite t.system t.number) (sym (triple_is d i)) (valid_is d i (good i l))

  pub bit_of_lt : (i : ℕ) → i < 56 → bit_of (triple_at d i) < 56
  bit_of_lt i l = place_lt _ _ (satellite_there i l)

  -- a use is 1 or 2
  pub use_is : (i : ℕ) → i < 56 → (triple_at d i).used ≡ cond (eqb (triple_at d i).used 1) 1 2
  use_is i l = ap (λ (t : Use). t.used) (triple_is d i) ∙ go (eqb u 1) refl ∙ ap (λ (t : Use). cond (eqb t.used 1) 1 2) (sym (triple_is d i))
    where
      u : ℕ
      u = byte d (3 * i + 2)

      go : (t : Bool) → eqb u 1 ≡ t → u ≡ cond (eqb u 1) 1 2
      go t q =
          let b = ((and-eq-true_iff (satellite (byte d (3 * i)) (byte d (3 * i + 1))) (between 1 2 u)).0 (good i l)).1 in
          let r = (and-eq-true_iff (leb 1 u) (leb u 2)).0 b in
          by t q (leb-true 1 u r.0) (leb-true u 2 r.1)
        where
          by : (t : Bool) → eqb u 1 ≡ t → 1 ≤ u → u ≤ 2 → u ≡ cond (eqb u 1) 1 2
          by true q a b = rw q (eqb-true u 1 q)
          by false q a b = let z = eqb-false u 1 q in rw q (omega arith)

  pub one_triple : (i j : ℕ) → i < 56 → j < 56 → bit_of (triple_at d i) ≡ bit_of (triple_at d j) → i ≡ j
  one_triple i j k l e =
      let p = place_at d j in
      let q : place_at d i ≡ p = sym (bit_of_is d i) ∙ e ∙ bit_of_is d j in
      let m : p < 56 = rw (bit_of_is d j) at (bit_of_lt j l) in
      count_one 56 (λ n. eqb (place_at d n) p) (omega (arith, at_once d (acceptable d ok).1 p m)) i j k l (eq-eqb _ _ q) (eq-eqb p p refl)

  pub some_triple : (p : ℕ) → p < 56 → (i : ℕ) × (i < 56) × (bit_of (triple_at d i) ≡ p)
  some_triple p l =
      let s = count_some 56 (λ n. eqb (place_at d n) p) (omega (arith, at_once d (acceptable d ok).1 p l)) in
      (s.index, s.below, bit_of_is d s.index ∙ eqb-true _ _ s.holds)

-- ---- the word

pub word_lt : (d : List ℕ) → word_of d < 2 ^ 56
unfolding word_of
word_lt d = set_lt 56 (λ p. any 56 (λ i. enables (triple_at d i) p))

pub bit_word : (d : List ℕ) (p : ℕ) → p < 56 → bit (word_of d) p ≡ flag (any 56 (λ i. enables (triple_at d i) p))
unfolding word_of
bit_word d p l = bit_set_of 56 (λ q. any 56 (λ i. enables (triple_at d i) q)) p l

-- what a triple that enables a place has
pub enabled_is : (t : Use) (p : ℕ) → enables t p ≡ true → (t.used ≡ 1) × (bit_of t ≡ p)
enabled_is t p e =
    let b = (and-eq-true_iff (eqb t.used 1) (eqb (bit_of t) p)).0 e in
    (eqb-true t.used 1 b.0, eqb-true (bit_of t) p b.1)

pub enables_it : (t : Use) (p : ℕ) → t.used ≡ 1 → bit_of t ≡ p → enables t p ≡ true
enables_it t p u q = (and-eq-true_iff (eqb t.used 1) (eqb (bit_of t) p)).1 (eq-eqb _ _ u, eq-eqb _ _ q)

-- the bit at a triple's place is 1 where its use is
pub used_bit : (d : List ℕ) → content 0x47 d ≡ 0 → (i : ℕ) → i < 56
    → bit (word_of d) (bit_of (triple_at d i)) ≡ flag (eqb (triple_at d i).used 1)
used_bit d ok i l = bit_word d p (bit_of_lt d ok i l) ∙ go (any 56 test) refl (eqb u 1) refl
  where
    u : ℕ
    u = (triple_at d i).used

    p : ℕ
    p = bit_of (triple_at d i)

    test : ℕ → Bool
    test j = enables (triple_at d j) p

    go : (a : Bool) → any 56 test ≡ a → (b : Bool) → eqb u 1 ≡ b → flag a ≡ flag b
    go true x true y = refl
    go false x false y = refl
    go true x false y =
        let s = any_at 56 test x in
        let e = enabled_is (triple_at d s.index) p s.holds in
        let z : s.index ≡ i = one_triple d ok s.index i s.below l e.1 in
        absurd (eqb-false u 1 y (ap (λ (j : ℕ). (triple_at d j).used) (sym z) ∙ e.0))
    go false x true y = absurd (never (any 56 test) (any_of 56 test i l (enables_it (triple_at d i) p (eqb-true u 1 y) refl)) x)

-- ---- built triple by triple

either : (a b : Bool) → cond b 1 (flag a) ≡ flag (a || b)
either true true = refl
either true false = refl
either false true = refl
either false false = refl

neither : (a : Bool) → flag a ≡ flag (a || false)
neither true = refl
neither false = refl

module _ (d : List ℕ) where
  -- the bits of w are the places that the first i triples enable
  abbrev pub Marks : ℕ → ℕ → Type 0
  Marks w i = (p : ℕ) → bit w p ≡ flag (any i (λ j. enables (triple_at d j) p))

  pub marks_none : Marks 0 0
  marks_none p = bit_zero p ∙ sym (ap flag (any_none (λ j. enables (triple_at d j) p)))

  pub marks_more : (w i : ℕ) → Marks w i → (t : Use) → t ≡ triple_at d i
      → (v : ℕ) → v ≡ cond (eqb t.used 1) (with_bit w (bit_of t)) w → Marks v (i + 1)
  marks_more w i h t et v ev p =
      ap (λ (x : ℕ). bit x p) ev
      ∙ go (eqb t.used 1)
      ∙ ap (λ (u : Use). flag (before || enables u p)) et
      ∙ sym (ap flag (any_more i (λ j. enables (triple_at d j) p)))
    where
      before : Bool
      before = any i (λ j. enables (triple_at d j) p)

      go : (b : Bool) → bit (cond b (with_bit w (bit_of t)) w) p ≡ flag (before || (b && eqb (bit_of t) p))
      go true = bit_with w (bit_of t) p ∙ ap (cond (eqb (bit_of t) p) 1) (h p) ∙ either before (eqb (bit_of t) p)
      go false = h p ∙ neither before

  pub marks_all : content 0x47 d ≡ 0 → (w : ℕ) → w < 2 ^ 64 → Marks w 56 → w ≡ word_of d
  marks_all ok w l h = bits_same 64 w (word_of d) l (omega (arith, word_lt d)) (λ p k. go p (ltb p 56) refl)
    where
      go : (p : ℕ) (t : Bool) → ltb p 56 ≡ t → bit w p ≡ bit (word_of d) p
      go p true e = h p ∙ sym (bit_word d p (ltb-true p 56 e))
      go p false e =
          let m = ltb-false p 56 e in
          let test : ℕ → Bool = λ j. enables (triple_at d j) p in
          let none : any 56 test ≡ false = fails (any 56 test) (λ x.
          let s = any_at 56 test x in
          omega (arith, bit_of_lt d ok s.index s.below, (enabled_is (triple_at d s.index) p s.holds).1)) in
          h p ∙ ap flag none ∙ sym (bit_past 56 (word_of d) p (word_lt d) m)
