-- Laws of what a word shows of acceptable data: each bit by the triples, one word alone, and whatever their order.
use mathlib.Core.Path.{◌≡◌, refl, sym, ap, ◌∙◌, subst}
use mathlib.Core.Bool.{Bool, true, false}
use mathlib.Core.List.{List}
use mathlib.Core.Logic.{◌↔◌}
use Prim.Native.Nat.{ℕ, ◌+◌, ◌-◌, ◌^◌, ◌<◌}
use native.Mathlib.Omega.{arith}
use borrow.Author.Tests.{eqb-true, eqb-false, ltb-true, ltb-false}
use lib.Dec.{eqb, ltb}
use Rattle.satellites.specs.Satellites.{place_of}
use Rattle.satellites.specs.Sets.{bit}
use Rattle.satellites.proofs.SatelliteLaws.{Satellite, by_system, numbered, place_lt, same_satellite, at_place}
use Rattle.satellites.proofs.BitLaws.{bit_past, bits_same}
use Rattle.kinds.specs.Kinds.{content}
use Rattle.fields_47.specs.declared.Use.{Use}
use Rattle.in_use.specs.InUse.{triple_at, bit_of, enables, any, word_of}
use Rattle.in_use.specs.Meaning.{Stands, enabling, Shows, Contained}
use Rattle.in_use.proofs.SetLaws.{flag, any_of, any_at}
use Rattle.in_use.proofs.WordLaws.{satellite_there, some_triple, word_lt, bit_word, enabled_is, enables_it, used_bit}

-- ---- the word of acceptable data

flag_one : (t : Bool) → flag t ≡ 1 → t ≡ true
flag_one true e = refl
flag_one false e = absurd (omega arith)

-- the bit p of a satellite
module _ (d : List ℕ) (ok : content 0x47 d ≡ 0) (s n : ℕ) (there : Satellite s n) (p : ℕ) (its : place_of s n ≡ p) where
  abbrev test : ℕ → Bool
  test i = enables (triple_at d i) p

  below : p < 56
  below = omega (arith, place_lt s n there)

  enabled_at : bit (word_of d) p ≡ 1 → Stands (enabling s n) d
  enabled_at e =
      let i = any_at 56 test (flag_one (any 56 test) (sym (bit_word d p below) ∙ e)) in
      let t = triple_at d i.index in
      let h = enabled_is t p i.holds in
      let z = same_satellite t.system t.number s n (satellite_there d ok i.index i.below) there (h.1 ∙ sym its) in
      record { index = i.index; within = i.below; there = λ k. record { system = z.0 k; number = z.1 k; used = h.0 k } }

  set_where : Stands (enabling s n) d → bit (word_of d) p ≡ 1
  set_where h =
      let e : test h.index ≡ true = ap (λ (u : Use). enables u p) h.there ∙ enables_it (enabling s n) p refl its in
      bit_word d p below ∙ ap flag (any_of 56 test h.index h.within e)

  bit_stands : bit (word_of d) p ≡ 1 ↔ Stands (enabling s n) d
  bit_stands = (enabled_at, set_where)

pub shows : (d : List ℕ) → content 0x47 d ≡ 0 → Shows d (word_of d)
shows d ok =
    record {
      gps = λ k l h. bit_stands d ok 1 k (numbered 1 32 (omega arith) (omega arith) (omega arith) k l h) (k - 1) (omega arith);
      glonass = λ k l h. bit_stands d ok 2 k (numbered 2 24 (omega arith) (omega arith) (omega arith) k l h) (31 + k) (omega arith);
      no_other = λ p l. bit_past 56 (word_of d) p (word_lt d) l;
    }

-- ---- no other word

-- what a word shows of a satellite
by_place_lem : (d : List ℕ) (w : ℕ) → Shows d w → (s n : ℕ) → Satellite s n → bit w (place_of s n) ≡ 1 ↔ Stands (enabling s n) d
by_place_lem d w x =
    by_system (λ s n. bit w (place_of s n) ≡ 1 ↔ Stands (enabling s n) d)
    (λ n l h. let e : n - 1 ≡ place_of 1 n = omega arith in subst (λ p. bit w p ≡ 1 ↔ Stands (enabling 1 n) d) e (x.gps n l h))
    (λ n l h. let e : 31 + n ≡ place_of 2 n = omega arith in subst (λ p. bit w p ≡ 1 ↔ Stands (enabling 2 n) d) e (x.glonass n l h))

-- two bits that are 1 together
same_bit : (v w p : ℕ) → (bit v p ≡ 1 → bit w p ≡ 1) → (bit w p ≡ 1 → bit v p ≡ 1) → bit v p ≡ bit w p
same_bit v w p f g = go (eqb (bit v p) 1) refl (eqb (bit w p) 1) refl
  where
    go : (a : Bool) → eqb (bit v p) 1 ≡ a → (b : Bool) → eqb (bit w p) 1 ≡ b → bit v p ≡ bit w p
    go true x b y = let z = eqb-true (bit v p) 1 x in z ∙ sym (f z)
    go false x true y = absurd (eqb-false (bit v p) 1 x (g (eqb-true (bit w p) 1 y)))
    go false x false y = let a = eqb-false (bit v p) 1 x in let b = eqb-false (bit w p) 1 y in omega arith

pub one_word : (d : List ℕ) (v w : ℕ) → v < 2 ^ 64 → w < 2 ^ 64 → Shows d v → Shows d w → v ≡ w
one_word d v w k l x y = bits_same 64 v w k l (λ p m. go p (ltb p 56) refl)
  where
    go : (p : ℕ) (t : Bool) → ltb p 56 ≡ t → bit v p ≡ bit w p
    go p true e =
        let a = at_place p (ltb-true p 56 e) in
        let f = by_place_lem d v x a.system a.number a.there in
        let g = by_place_lem d w y a.system a.number a.there in
        subst (λ q. bit v q ≡ bit w q) a.its_place
        (same_bit v w (place_of a.system a.number) (λ b. g.1 (f.0 b)) (λ b. f.1 (g.0 b)))
    go p false e = let m = ltb-false p 56 e in x.no_other p m ∙ sym (y.no_other p m)

-- ---- whatever the order

pub same_word : (d e : List ℕ) → content 0x47 d ≡ 0 → content 0x47 e ≡ 0 → Contained d e → word_of d ≡ word_of e
same_word d e okd oke h = bits_same 56 (word_of d) (word_of e) (word_lt d) (word_lt e) (λ p l. go p (some_triple d okd p l))
  where
    go : (p : ℕ) → (i : ℕ) × (i < 56) × (bit_of (triple_at d i) ≡ p) → bit (word_of d) p ≡ bit (word_of e) p
    go p (i, l, q) =
        let s = h i l in
        let t = s.there in
        subst (λ j. bit (word_of d) j ≡ bit (word_of e) j) q (
        used_bit d okd i l
        ∙ ap (λ (u : Use). flag (eqb u.used 1)) (sym t)
        ∙ sym (used_bit e oke s.index s.within)
        ∙ ap (λ (u : Use). bit (word_of e) (bit_of u)) t)
