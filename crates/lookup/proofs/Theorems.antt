-- What lookup gives, for any data, system and number.
use mathlib.Core.Path.{◌≡◌, refl, sym, ap, ◌∙◌, subst}
use mathlib.Core.Bool.{Bool, true, false, and-eq-true_iff}
use mathlib.Core.List.{List}
use mathlib.Core.Logic.{◌↔◌, ◌⊎◌}
use Prim.Native.Nat.{ℕ, ◌/◌, ◌<◌}
use native.Mathlib.Omega.{arith}
use borrow.Author.Tests.{eqb-true, eqb-false, eq-eqb, ltb-true, ltb-false}
use lib.Dec.{eqb, ltb}
use lib.ListN.{length}
use Rattle.std.specs.Prelude.{Option, Some, None, Result, Ok, Err}
use Rattle.ranges.proofs.CountLaws.{never}
use Rattle.kinds.specs.Kinds.{content}
use Rattle.kinds.proofs.RowLaws.{refused_52}
use Rattle.lookup.specs.Lookup.{entry_at, has, first_from, found_in}
use Rattle.lookup.specs.Meaning.{Holds, Earliest, Absent, Finds}
use Rattle.lookup.proofs.SearchLaws.{accepted, refused, Given, given}

module _ (d : List ℕ) (s n : ℕ) where
  -- the test, and what it asks of an entry
  holds : (i : ℕ) → i < length d / 7 → has d s n i ≡ true → Holds d s n i
  holds i l t =
      let b = (and-eq-true_iff (eqb (entry_at d i).system s) (eqb (entry_at d i).number n)).0 t in
      record { within = l; has_system = eqb-true _ _ b.0; has_number = eqb-true _ _ b.1 }

  lacks : (i : ℕ) → has d s n i ≡ false → Holds d s n i → ⊥
  lacks i f h =
      never (has d s n i)
      ((and-eq-true_iff (eqb (entry_at d i).system s) (eqb (entry_at d i).number n)).1 (eq-eqb _ _ h.has_system, eq-eqb _ _ h.has_number))
      f

  by_search : content 0x52 d ≡ 0 → (r : Option ℕ) → Given (has d s n) 0 (length d / 7) r → Finds d s n (Ok r)
  by_search e (Some i) g =
      (e, record { holds = holds i (omega (arith, g.1)) g.2; no_lower = λ j l. lacks j (g.3 j (omega arith) l) })
  by_search e None g = (e, λ i h. lacks i (g i (omega arith) (omega (arith, h.within))) h)

  finds : Finds d s n (found_in d s n)
  finds = go (eqb (content 0x52 d) 0) refl
    where
      go : (t : Bool) → eqb (content 0x52 d) 0 ≡ t → Finds d s n (found_in d s n)
      go true e =
          let z = eqb-true (content 0x52 d) 0 e in
          subst (Finds d s n) (sym (accepted d s n z)) (by_search z (first_from (has d s n) 0 (length d / 7)) (given (has d s n) 0 (length d / 7)))
      go false e =
          let h = eqb-false (content 0x52 d) 0 e in
          subst (Finds d s n) (sym (refused d s n (content 0x52 d) refl h)) (refl, h)

  one_index : (i j : ℕ) → Earliest d s n i → Earliest d s n j → i ≡ j
  one_index i j x y = go (ltb i j) refl (ltb j i) refl
    where
      go : (t : Bool) → ltb i j ≡ t → (u : Bool) → ltb j i ≡ u → i ≡ j
      go true p u q = absurd (y.no_lower i (ltb-true i j p) x.holds)
      go false p true q = absurd (x.no_lower j (ltb-true j i q) y.holds)
      go false p false q = let a = ltb-false i j p in let b = ltb-false j i q in omega arith

  -- the three cases exclude each other, and each leaves one answer
  same : (r q : Result (Option ℕ) ℕ) → Finds d s n r → Finds d s n q → r ≡ q
  same (Ok (Some i)) (Ok (Some j)) x y = ap (λ k. Ok (Some k)) (one_index i j x.1 y.1)
  same (Ok (Some i)) (Ok None) x y = absurd (y.1 i x.1.holds)
  same (Ok (Some i)) (Err v) x y = absurd (y.1 (sym y.0 ∙ x.0))
  same (Ok None) (Ok (Some j)) x y = absurd (x.1 j y.1.holds)
  same (Ok None) (Ok None) x y = refl
  same (Ok None) (Err v) x y = absurd (y.1 (sym y.0 ∙ x.0))
  same (Err v) (Ok (Some j)) x y = absurd (x.1 (sym x.0 ∙ y.0))
  same (Err v) (Ok None) x y = absurd (x.1 (sym x.0 ∙ y.0))
  same (Err v) (Err w) x y = ap Err (sym x.0 ∙ y.0)

  -- lookup gives what the paper's rule asks for, and nothing else meets that rule
  pub exactly : (r : Result (Option ℕ) ℕ) → found_in d s n ≡ r ↔ Finds d s n r
  exactly r = (λ e. subst (Finds d s n) e finds, λ f. same (found_in d s n) r finds f)

  -- an index found has both, and no lower one does
  pub earliest : (i : ℕ) → found_in d s n ≡ Ok (Some i) ↔ (content 0x52 d ≡ 0) × Earliest d s n i
  earliest i = exactly (Ok (Some i))

  -- none exactly when no entry has both
  pub none_exactly : found_in d s n ≡ Ok None ↔ (content 0x52 d ≡ 0) × Absent d s n
  none_exactly = exactly (Ok None)

  -- a refusal is the data's, by 11 or 12
  pub refusal : (v : ℕ) → found_in d s n ≡ Err v → (content 0x52 d ≡ v) × ((v ≡ 11) ⊎ (v ≡ 12))
  refusal v e =
      let f = (exactly (Err v)).0 e in
      (f.0, subst (λ w. (w ≡ 11) ⊎ (w ≡ 12)) f.0 (refused_52 d (λ z. f.1 (sym f.0 ∙ z))))
