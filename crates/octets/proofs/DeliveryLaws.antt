-- Laws of what a call answers that writes, and of what it leaves in the buffer, a pair for each case: what callers use in place of
-- their text.
use mathlib.Core.Path.{◌≡◌, refl, sym, ap, ◌∙◌}
use mathlib.Core.Bool.{Bool, true, false, cond}
use mathlib.Core.List.{List}
use Prim.Native.Nat.{ℕ, ◌≤◌, ◌<◌}
use native.Mathlib.Omega.{arith}
use borrow.Author.Tests.{eq-eqb, ne_eqb, lt-ltb, le-ltb, eqb-true, eqb-false, ltb-true, ltb-false}
use lib.Dec.{eqb, ltb}
use lib.ListN.{length, take, drop}
use lib.Seq.{take_at}
use Rattle.refusals.specs.declared.Refusal.{Refusal}
use Rattle.refusals.specs.Numbers.{number}
use Rattle.refusals.proofs.NumberLaws.{positive}
use Rattle.octets.specs.Placing.{placed}
use Rattle.octets.proofs.PlacingLaws.{placed_start, placed_out}
use Rattle.octets.specs.Delivery.{Written, refused, accepted, written_of, filled_of}

-- bytes placed at the start, read back
pub placed_back : (b t : List ℕ) → length t ≤ length b → take (length t) (placed b 0 t) ≡ t
placed_back b t h = ap (take (length t)) (placed_start b t h) ∙ take_at t (drop (length t) b) (length t) refl

module _ (v : ℕ) (t b : List ℕ) where
  -- refused by v
  pub refuses : (v ≡ 0 → ⊥) → (written_of v t b ≡ refused v) × (filled_of v t b ≡ b)
  unfolding written_of filled_of
  refuses h = rw (ne_eqb v 0 h) (refl, refl)

  pub refused_by_lem : (w : ℕ) → v ≡ w → (w ≡ 0 → ⊥) → (written_of v t b ≡ refused w) × (filled_of v t b ≡ b)
  refused_by_lem w e n =
      let r = refuses (λ z. n (rw e at z)) in
      (r.0 ∙ ap refused e, r.1)

  -- refused before by r, whose number v is
  pub refused_before : (r : Refusal) → number r ≡ v → (refused (number r) ≡ written_of v t b) × (b ≡ filled_of v t b)
  refused_before r e =
      let f = refuses (λ z. positive r (e ∙ z)) in
      (ap refused e ∙ sym f.0, sym f.1)

  -- the buffer is too short
  pub short : v ≡ 0 → length b < length t → (written_of v t b ≡ refused 13) × (filled_of v t b ≡ b)
  unfolding written_of filled_of
  short h k = rw (eq-eqb v 0 h, lt-ltb (length b) (length t) k) (refl, placed_out b 0 t (omega arith))

  -- the text is written
  pub writes : v ≡ 0 → length t ≤ length b → (written_of v t b ≡ accepted (length t)) × (filled_of v t b ≡ placed b 0 t)
  unfolding written_of filled_of
  writes h k = rw (eq-eqb v 0 h, le-ltb (length b) (length t) k) (refl, refl)

  -- only a text that is not refused and that the buffer has room for is written
  pub written_judged : (written_of v t b).refusal ≡ 0 → (v ≡ 0) × (length t ≤ length b)
  unfolding written_of
  written_judged = go (eqb v 0) (ltb (length b) (length t)) refl refl
    where
      go : (p s : Bool) → eqb v 0 ≡ p → ltb (length b) (length t) ≡ s
          → (cond p (cond s (refused 13) (accepted (length t))) (refused v)).refusal ≡ 0 → (v ≡ 0) × (length t ≤ length b)
      go true true p q z = absurd (omega arith)
      go true false p q z = (eqb-true v 0 p, ltb-false (length b) (length t) q)
      go false s p q z = absurd (eqb-false v 0 p z)

  -- what is refused has length 0 and leaves the buffer as it is
  pub refused_none : ((written_of v t b).refusal ≡ 0 → ⊥) → ((written_of v t b).length ≡ 0) × (filled_of v t b ≡ b)
  refused_none n = go (eqb v 0) (ltb (length b) (length t)) refl refl
    where
      go : (p s : Bool) → eqb v 0 ≡ p → ltb (length b) (length t) ≡ s → ((written_of v t b).length ≡ 0) × (filled_of v t b ≡ b)
      go true true p q = let r = short (eqb-true v 0 p) (ltb-true (length b) (length t) q) in (ap (λ (w : Written). w.length) r.0, r.1)
      go true false p q =
          absurd (n (ap (λ (w : Written). w.refusal) (writes (eqb-true v 0 p) (ltb-false (length b) (length t) q)).0))
      go false s p q = let r = refuses (eqb-false v 0 p) in (ap (λ (w : Written). w.length) r.0, r.1)

  -- the bytes that were written, read back
  pub written_back : (written_of v t b).refusal ≡ 0 → take (written_of v t b).length (filled_of v t b) ≡ t
  written_back z =
      let j = written_judged z in
      let w = writes j.0 j.1 in
      rw (w.0, w.1) (placed_back b t j.1)
