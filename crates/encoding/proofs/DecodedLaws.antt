-- Laws of what a decoding answers: by the data's refusal v, the fields or v.
use mathlib.Core.Path.{◌≡◌, refl, sym, ap, ◌∙◌}
use mathlib.Core.Bool.{Bool, true, false, cond}
use mathlib.Core.Option.{Option, none, some, none-ne-some}
use Prim.Native.Nat.{ℕ}
use borrow.Author.Tests.{eq-eqb, ne_eqb, eqb-true}
use lib.Dec.{eqb}

-- the code's answer, by the number w that it found
module _ {D : Type 0} (refused : ℕ → D) (b : D) (v w : ℕ) (e : w ≡ v) where
  pub refuses : (w ≡ 0 → ⊥) → refused w ≡ cond (eqb v 0) b (refused v)
  refuses n = rw (ne_eqb v 0 (λ z. n (e ∙ z))) (ap refused e)

  pub gives : w ≡ 0 → (a : D) → a ≡ b → a ≡ cond (eqb v 0) b (refused v)
  gives z a q = rw (eq-eqb v 0 (sym e ∙ z)) q

-- an answer that holds fields is one of acceptable data: `held` are an answer's fields, where it has any
module _ {T D : Type 0} (held : D → Option T) (holding : T → D) (refused : ℕ → D) (a : D) (v : ℕ) (f : T) where
  pub answered : ((g : T) → held (holding g) ≡ some g) → ((n : ℕ) → held (refused n) ≡ none)
      → cond (eqb v 0) a (refused v) ≡ holding f → (v ≡ 0) × (held a ≡ some f)
  answered known nothing e = go (eqb v 0) refl e
    where
      go : (t : Bool) → eqb v 0 ≡ t → cond t a (refused v) ≡ holding f → (v ≡ 0) × (held a ≡ some f)
      go true q e = (eqb-true v 0 q, ap held e ∙ known f)
      go false q e = absurd (none-ne-some f (sym (nothing v) ∙ ap held e ∙ known f))
