-- Laws of the data of a word: how it is laid out, its triples, and that it is acceptable.
use mathlib.Core.Path.{◌≡◌, refl, sym, ap, ◌∙◌}
use mathlib.Core.Bool.{Bool, true, false, cond, ◌&&◌}
use mathlib.Core.List.{List, [], ◌++◌}
use Prim.Native.Nat.{ℕ, ◌+◌, ◌*◌, ◌-◌, ◌≤◌, ◌<◌}
use native.Mathlib.Nat.{zero-add}
use native.Mathlib.Omega.{arith}
use borrow.Author.Tests.{eqb-true, ltb-true, ltb-false}
use lib.Dec.{eqb, ltb}
use lib.ListN.{length, take, drop, length-append}
use Rattle.octets.specs.Placing.{placed}
use Rattle.octets.proofs.PlacingLaws.{placed_more, placed_whole}
use Rattle.satellites.specs.Satellites.{between, satellite, place_of}
use Rattle.satellites.specs.Sets.{bit}
use Rattle.satellites.proofs.SatelliteLaws.{Satellite, satellite_of, numbered, same_satellite, AtPlace, at_place}
use Rattle.ranges.proofs.CountLaws.{count_apart}
use Rattle.ranges.proofs.OnceLaws.{valid, place_at, all_apart}
use Rattle.kinds.specs.Kinds.{content}
use Rattle.encoding.specs.Entries.{laid_out}
use Rattle.encoding.proofs.EntryLaws.{length_laid, laid_at, laid_next, laid_join}
use Rattle.fields_47.specs.Fields.{entry_of, entry_data}
use Rattle.fields_47.specs.declared.Use.{Use}
use Rattle.in_use.specs.InUse.{triple_at, bit_of, triple_of, system_data, data_of}
use Rattle.in_use.proofs.WordLaws.{triple_is, accepted_47}

-- ---- the triples of a system

module _ (w s : ℕ) where
  abbrev one : ℕ → List ℕ
  one i = entry_data (triple_of w s (i + 1))

  pub system_none : system_data w s 0 ≡ []
  unfolding system_data laid_out
  system_none = refl

  pub length_system : (m : ℕ) → length (system_data w s m) ≡ 3 * m
  unfolding system_data
  length_system m = length_laid one 3 m (λ i l. refl)

  -- the next satellite, placed right after those before it
  pub system_more : (b : List ℕ) (number at to : ℕ) → 1 ≤ number → to ≡ at + 3 * (number - 1) → at + 3 * number ≤ length b
      → (all : List ℕ) → all ≡ placed b at (system_data w s (number - 1)) → (x : List ℕ) → x ≡ entry_data (triple_of w s number)
      → placed all to x ≡ placed b at (system_data w s number)
  unfolding system_data
  system_more b number at to k p r all q x y =
      let m : number ≡ number - 1 + 1 = omega arith in
      laid_next one 3 b at (number - 1) to (λ j l. refl) p (omega arith) all q x (y ∙ ap (λ (n : ℕ). entry_data (triple_of w s n)) m)
      ∙ ap (λ (n : ℕ). placed b at (laid_out one n)) (sym m)

-- ---- both systems

pub length_data : (w : ℕ) → length (data_of w) ≡ 168
unfolding data_of
length_data w =
    length-append (system_data w 1 32) (system_data w 2 24) ∙ (λ k. length_system w 1 32 k + length_system w 2 24 k)

-- one after the other into an array
pub data_placed : (w : ℕ) (b c : List ℕ) → length b ≡ 168 → c ≡ placed b 0 (system_data w 1 32) → placed c 96 (system_data w 2 24) ≡ data_of w
unfolding data_of
data_placed w b c l e =
    let g = system_data w 1 32 in
    let h = system_data w 2 24 in
    let m : 0 + length g ≡ 96 = zero-add (length g) ∙ length_system w 1 32 in
    let k : 0 + length g + length h ≤ length b = omega (arith, m, length_system w 2 24) in
    let n : length (g ++ h) ≡ length b = length_data w ∙ sym l in
    (λ j. placed (e j) (sym m j) h) ∙ placed_more b 0 g h k ∙ placed_whole b (g ++ h) n

-- the triple at a place is that of the satellite there
module _ (w : ℕ) where
  abbrev both : ℕ → List ℕ
  both i = cond (ltb i 32) (one w 1 i) (one w 2 (i - 32))

  both_long : (i : ℕ) → length (both i) ≡ 3
  both_long i = go (ltb i 32)
    where
      go : (t : Bool) → length (cond t (one w 1 i) (one w 2 (i - 32))) ≡ 3
      go true = refl
      go false = refl

  both_at : (i : ℕ) → i < 56 → (a : AtPlace i) → both i ≡ entry_data (triple_of w a.system a.number)
  both_at i l a = go (ltb i 32) refl
    where
      is : (s n : ℕ) → Satellite s n → place_of s n ≡ i → entry_data (triple_of w s n) ≡ entry_data (triple_of w a.system a.number)
      is s n t e =
          let z = same_satellite s n a.system a.number t a.there (e ∙ sym a.its_place) in
          λ k. entry_data (triple_of w (z.0 k) (z.1 k))

      go : (t : Bool) → ltb i 32 ≡ t → cond t (one w 1 i) (one w 2 (i - 32)) ≡ entry_data (triple_of w a.system a.number)
      go true e =
          let k = ltb-true i 32 e in
          is 1 (i + 1) (numbered 1 32 (omega arith) (omega arith) (omega arith) (i + 1) (omega arith) (omega arith)) (omega arith)
      go false e =
          let k = ltb-false i 32 e in
          is 2 (i - 32 + 1) (numbered 2 24 (omega arith) (omega arith) (omega arith) (i - 32 + 1) (omega arith) (omega arith)) (omega arith)

  pub triple_data : (i : ℕ) → i < 56 → (a : AtPlace i) → triple_at (data_of w) i ≡ triple_of w a.system a.number
  unfolding data_of system_data
  triple_data i l a =
      let e : data_of w ≡ laid_out both 56 = laid_join (one w 1) (one w 2) 32 24 in
      let n : 0 + 3 * i ≡ 3 * i = zero-add (3 * i) in
      (λ k. entry_of (take 3 (drop (n k) (e k)))) ∙ ap entry_of (laid_at both 3 56 i (λ j m. both_long j) l ∙ both_at i l a)

  -- it is acceptable
  bit_of_data : (i : ℕ) → i < 56 → place_at (data_of w) i ≡ i
  bit_of_data i l = let a = at_place i l in ap bit_of (sym (triple_is (data_of w) i) ∙ triple_data i l a) ∙ a.its_place

  abbrev valid_use : Use → Bool
  valid_use t = satellite t.system t.number && between 1 2 t.used

  valid_data : (i : ℕ) → i < 56 → valid (data_of w) i ≡ true
  valid_data i l =
      let a = at_place i l in
      ap valid_use (sym (triple_is (data_of w) i) ∙ triple_data i l a)
      ∙ (λ k. satellite_of a.system a.number a.there k && go (eqb (bit w (place_of a.system a.number)) 1) k)
    where
      go : (t : Bool) → between 1 2 (cond t 1 2) ≡ true
      go true = refl
      go false = refl

  pub data_good : content 0x47 (data_of w) ≡ 0
  data_good =
      accepted_47 (data_of w) (length_data w) (all_apart (data_of w) valid_data (λ p.
      count_apart 56 (λ j. eqb (place_at (data_of w) j) p) (λ i j k l x y.
      sym (bit_of_data i k) ∙ eqb-true _ _ x ∙ sym (eqb-true _ _ y) ∙ bit_of_data j l)))
