-- A slice of one byte is a step, over the record of `line`.
use mathlib.Core.Bool.{Bool, true, cond}
use mathlib.Core.List.{[], ◌∷◌}
use mathlib.Core.Path.{◌≡◌, refl, sym, ap, ◌∙◌}
use Prim.Native.Nat.{ℕ, ◌<◌}
use borrow.Author.Tests.{lt-ltb}
use lib.Dec.{ltb}
use Rattle.line.specs.Table.{Event as Said}
use Rattle.line.specs.Table.Event.{nothing, message, refusal}
use Rattle.line.specs.Record.{Rec, Result, limit, event_of, stepped, or_stop, one_more, walk}

pub record Single (v : Rec) (b : ℕ) : Type 0 where
  pub after : (walk v (b ∷ [])).after ≡ stepped v b
  pub answer : (walk v (b ∷ [])).answer ≡ event_of v b

pub single : (v : Rec) (b : ℕ) → v.fed < limit → Single v b
single v b l = by (ltb v.fed limit) (lt-ltb v.fed limit l) (event_of v b) refl
  where
    end : Bool → Said → Result
    end t e =
        cond t
        (or_stop e (one_more (record { after = stepped v b; answer = nothing; taken = 0 })) (record { after = stepped v b; answer = e; taken = 1 }))
        (record { after = v; answer = nothing; taken = 0 })

    is : (t : Bool) (e : Said) → ltb v.fed limit ≡ t → event_of v b ≡ e → walk v (b ∷ []) ≡ end t e
    is t e p q = λ i. end (p i) (q i)

    by : (t : Bool) → ltb v.fed limit ≡ true → (e : Said) → event_of v b ≡ e → Single v b
    by t p nothing q =
        record { after = ap (λ (y : Result). y.after) (is true nothing p q); answer = ap (λ (y : Result). y.answer) (is true nothing p q) ∙ sym q }
    by t p (message i d n) q =
        record { after = ap (λ (y : Result). y.after) (is true (message i d n) p q); answer = ap (λ (y : Result). y.answer) (is true (message i d n) p q) ∙ sym q }
    by t p (refusal w i n) q =
        record { after = ap (λ (y : Result). y.after) (is true (refusal w i n) p q); answer = ap (λ (y : Result). y.answer) (is true (refusal w i n) p q) ∙ sym q }
