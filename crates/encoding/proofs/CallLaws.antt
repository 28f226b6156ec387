-- What a call that writes has given, by its contract: v refuses its text t, w is its answer, and the buffer b is b' afterwards.
use mathlib.Core.Path.{◌≡◌, refl, sym, ap, ◌∙◌}
use mathlib.Core.Bool.{Bool, true, false, cond}
use mathlib.Core.List.{List}
use Prim.Native.Nat.{ℕ, ◌≤◌}
use lib.ListN.{length, take}
use Rattle.octets.specs.Placing.{placed}
use Rattle.octets.specs.Delivery.{Written}
use Rattle.octets.specs.Delivery.{accepted, written_of, filled_of}
use Rattle.octets.proofs.DeliveryLaws.{writes, written_judged, written_back}

-- where a call first asks something else, by which it refuses as v, its refusal is 0 only after a yes
pub cond_zero : (t : Bool) (n v : ℕ) → (v ≡ 0 → ⊥) → cond t n v ≡ 0 → (t ≡ true) × (n ≡ 0)
cond_zero true n v h z = (refl, z)
cond_zero false n v h z = absurd (h z)

module _ (v : ℕ) (t b : List ℕ) (w : Written) (b' : List ℕ) (answer : w ≡ written_of v t b) (left : b' ≡ filled_of v t b) where
  -- accepted, its text stands in the buffer
  pub call_back : w.refusal ≡ 0 → (v ≡ 0) × (take w.length b' ≡ t)
  call_back z =
      let y : (written_of v t b).refusal ≡ 0 = sym (ap (λ (x : Written). x.refusal) answer) ∙ z in
      ((written_judged v t b y).0, (λ k. take (answer k).length (left k)) ∙ written_back v t b y)

  -- a text that is not refused, in a buffer with room
  pub call_writes : (d : List ℕ) → t ≡ d → v ≡ 0 → length d ≤ length b → (w ≡ accepted (length d)) × (b' ≡ placed b 0 d)
  call_writes d e h k =
      let r = writes v t b h (rw e k) in
      (answer ∙ r.0 ∙ ap (λ (x : List ℕ). accepted (length x)) e, left ∙ r.1 ∙ ap (placed b 0) e)
