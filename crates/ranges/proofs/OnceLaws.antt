-- Laws of 47h: 56 triples of satellites, no place among the 56 twice, are each satellite once.
use mathlib.Core.Path.{◌≡◌, refl, sym, ap, ◌∙◌}
use mathlib.Core.Bool.{Bool, true, false, cond, ◌&&◌, and-eq-true_iff}
use mathlib.Core.List.{List}
use Prim.Native.Nat.{ℕ, ◌+◌, ◌*◌, ◌-◌, ◌≤◌, ◌<◌}
use native.Mathlib.Omega.{arith}
use borrow.Author.Tests.{eqb-true, eqb-false, eq-eqb}
use borrow.Author.Count.{below_more}
use lib.Dec.{eqb}
use Rattle.satellites.specs.Satellites.{between, satellite, place_of}
use Rattle.satellites.specs.Sets.{bit, with_bit}
use Rattle.satellites.proofs.SatelliteLaws.{Satellite, satellite_is, by_system, numbered, place_lt, same_satellite, at_place}
use Rattle.satellites.proofs.BitLaws.{bit_zero, bit_set}
use Rattle.ranges.specs.Ranges.{count, all, once, in_47}
use Rattle.octets.specs.Bytes.{byte}
use Rattle.ranges.proofs.CountLaws.{fails, never, all_at, all_of, count_more, count_same, count_le, each_once}

-- two satellites are the same where their places are
same_place : (a b s n : ℕ) → Satellite a b → Satellite s n → eqb a s && eqb b n ≡ eqb (place_of a b) (place_of s n)
same_place a b s n p q = go (eqb (place_of a b) (place_of s n)) refl
  where
    go : (t : Bool) → eqb (place_of a b) (place_of s n) ≡ t → eqb a s && eqb b n ≡ t
    go true e =
        let z = same_satellite a b s n p q (eqb-true (place_of a b) (place_of s n) e) in
        rw (eq-eqb a s z.0, eq-eqb b n z.1)
    go false e =
        fails (eqb a s && eqb b n) (λ t.
        let r = (and-eq-true_iff (eqb a s) (eqb b n)).0 t in
        let x = eqb-true a s r.0 in
        let y = eqb-true b n r.1 in
        eqb-false (place_of a b) (place_of s n) e (omega arith))

module _ (d : List ℕ) where
  abbrev pub valid : ℕ → Bool
  valid i = satellite (byte d (3 * i)) (byte d (3 * i + 1)) && between 1 2 (byte d (3 * i + 2))

  abbrev pub place_at : ℕ → ℕ
  place_at i = place_of (byte d (3 * i)) (byte d (3 * i + 1))

  -- how often the place p is among those of the first i triples
  abbrev pub times : ℕ → ℕ → ℕ
  times i p = count i (λ j. eqb (place_at j) p)

  pub valid_is : (i : ℕ) → valid i ≡ true → Satellite (byte d (3 * i)) (byte d (3 * i + 1))
  valid_is i e = satellite_is (byte d (3 * i)) (byte d (3 * i + 1)) ((and-eq-true_iff _ (between 1 2 (byte d (3 * i + 2)))).0 e).0

  -- a satellite is there as often as its place
  once_is : ((i : ℕ) → i < 56 → valid i ≡ true) → (s n : ℕ) → Satellite s n → once d s n ≡ eqb (times 56 (place_of s n)) 1
  once_is v s n p =
      ap (λ (k : ℕ). eqb k 1)
      (count_same 56 _ _ (λ i l. same_place (byte d (3 * i)) (byte d (3 * i + 1)) s n (valid_is i (v i l)) p))

  -- each of the first m satellites of a system is there once
  abbrev all_once : ℕ → ℕ → Bool
  all_once s m = all m (λ k. once d s (k + 1))

  -- the triples are valid, and each satellite is there once
  pub record Once : Type 0 where
    pub good : (i : ℕ) → i < 56 → valid i ≡ true
    pub one : (s n : ℕ) → Satellite s n → once d s n ≡ true

  pub to_once : in_47 d ≡ true → Once
  to_once e =
      let o = (and-eq-true_iff (all 56 valid && all_once 1 32) (all_once 2 24)).0 e in
      let v = (and-eq-true_iff (all 56 valid) (all_once 1 32)).0 o.0 in
      let at : (s m : ℕ) → all_once s m ≡ true → (n : ℕ) → 1 ≤ n → n ≤ m → once d s n ≡ true
      = λ s m a n l h. let z : n - 1 + 1 ≡ n = omega arith in rw z at (all_at m (λ k. once d s (k + 1)) a (n - 1) (omega arith)) in
      record { good = all_at 56 valid v.0; one = by_system (λ s n. once d s n ≡ true) (at 1 32 v.1) (at 2 24 o.1) }

  of_once : Once → in_47 d ≡ true
  of_once o =
      let at : (s m : ℕ) → 1 ≤ s → s ≤ 2 → 8 * s + m ≤ 40 → all_once s m ≡ true
      = λ s m l h b.
      all_of m (λ k. once d s (k + 1)) (λ n k. o.one s (n + 1) (numbered s m l h b (n + 1) (omega arith) (omega arith))) in
      rw (all_of 56 valid o.good, at 1 32 (omega arith) (omega arith) (omega arith), at 2 24 (omega arith) (omega arith) (omega arith))

  -- at each place there is one triple
  pub at_once : in_47 d ≡ true → (p : ℕ) → p < 56 → times 56 p ≡ 1
  at_once e p l =
      let o = to_once e in
      let a = at_place p l in
      eqb-true _ 1 (ap (λ (q : ℕ). eqb (times 56 q) 1) (sym a.its_place) ∙ sym (once_is o.good _ _ a.there) ∙ o.one _ _ a.there)

  -- 56 valid triples, and at no place two
  pub all_apart : ((i : ℕ) → i < 56 → valid i ≡ true) → ((p : ℕ) → times 56 p ≤ 1) → in_47 d ≡ true
  all_apart v most =
      let below : (j : ℕ) → j < 56 → place_at j < 56 = λ j l. place_lt _ _ (valid_is j (v j l)) in
      of_once (record {
        good = v;
        one = λ s n p. once_is v s n p ∙ eq-eqb _ 1 (each_once 56 place_at below most (place_of s n) (place_lt s n p));
      })

  -- the bits of w are the places of the first i triples, which are valid, and none is there twice
  pub record Seen (w i : ℕ) : Type 0 where
    pub good : (j : ℕ) → j < i → valid j ≡ true
    pub marks : (p : ℕ) → bit w p ≡ times i p

  pub seen_none : Seen 0 0
  unfolding count
  seen_none = record { good = λ j l. absurd (omega arith); marks = bit_zero }

  pub seen_more : (w i : ℕ) → Seen w i → valid i ≡ true → bit w (place_at i) ≡ 0 → Seen (with_bit w (place_at i)) (i + 1)
  seen_more w i h v z =
      record {
        good = below_more (λ j. valid j ≡ true) i h.good v;
        marks = λ p. bit_set w (place_at i) p z ∙ ap (λ (k : ℕ). k + cond (eqb (place_at i) p) 1 0) (h.marks p) ∙ sym (count_more (λ j. eqb (place_at j) p) i);
      }

  pub seen_all : (w : ℕ) → Seen w 56 → in_47 d ≡ true
  seen_all w h = all_apart h.good (λ p. omega (arith, h.marks p))

  -- a triple that is not valid, and one whose place was there before
  pub seen_bad : (i : ℕ) → i < 56 → valid i ≡ false → in_47 d ≡ false
  seen_bad i l e = fails (in_47 d) (λ t. never (valid i) ((to_once t).good i l) e)

  pub seen_twice : (w i : ℕ) → Seen w i → i < 56 → valid i ≡ true → bit w (place_at i) ≡ 1 → in_47 d ≡ false
  seen_twice w i h l v b =
      fails (in_47 d) (λ t.
      let o = to_once t in
      let s = valid_is i v in
      let one = eqb-true (times 56 (place_at i)) 1 (sym (once_is o.good _ _ s) ∙ o.one _ _ s) in
      let two : times (i + 1) (place_at i) ≡ 2
      = count_more (λ j. eqb (place_at j) (place_at i)) i ∙ rw (eq-eqb (place_at i) (place_at i) refl) (omega (arith, h.marks (place_at i))) in
      omega (arith, count_le (i + 1) 56 (λ j. eqb (place_at j) (place_at i)) (omega arith)))
