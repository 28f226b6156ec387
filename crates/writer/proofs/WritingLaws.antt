-- Laws of what the writer answers and leaves in the buffer, one for each question: what callers use in place of their text.
use mathlib.Core.Path.{◌≡◌, refl, sym, ap, ◌∙◌}
use mathlib.Core.Bool.{Bool, true, false, cond}
use mathlib.Core.List.{List}
use Prim.Native.Nat.{ℕ, ◌≤◌, ◌<◌}
use native.Mathlib.Omega.{arith}
use borrow.Author.Tests.{lt-ltb, le-ltb, ltb-false}
use lib.Dec.{ltb}
use lib.ListN.{length, take}
use Rattle.octets.specs.Placing.{placed}
use Rattle.octets.specs.Delivery.{refused, accepted}
use Rattle.octets.proofs.DeliveryLaws as delivery
use Rattle.kinds.specs.Kinds.{content}
use Rattle.line.specs.Frame.{mode_of, frame}
use Rattle.writer.specs.Writing.{refusal_of, frame_written, frame_filled}

-- question 1, then 10 to 12
by_mode_lem : (mode id : ℕ) (d : List ℕ) → 1 < mode → refusal_of mode id d ≡ 1
by_mode_lem mode id d m = ap (λ (t : Bool). cond t 1 (content id d)) (lt-ltb 1 mode m)

by_content : (mode id : ℕ) (d : List ℕ) → mode ≤ 1 → refusal_of mode id d ≡ content id d
by_content mode id d m = ap (λ (t : Bool). cond t 1 (content id d)) (le-ltb 1 mode m)

module _ (mode id : ℕ) (d b : List ℕ) where
  pub wrong_mode : 1 < mode → (refused 1 ≡ frame_written mode id d b) × (b ≡ frame_filled mode id d b)
  wrong_mode m =
      let r = delivery.refused_by_lem (refusal_of mode id d) (frame (mode_of mode) id d) b 1 (by_mode_lem mode id d m) (λ z. omega arith) in
      (sym r.0, sym r.1)

  pub wrong_content : mode ≤ 1 → (content id d ≡ 0 → ⊥) → (refused (content id d) ≡ frame_written mode id d b) × (b ≡ frame_filled mode id d b)
  wrong_content m n =
      let r = delivery.refused_by_lem (refusal_of mode id d) (frame (mode_of mode) id d) b (content id d) (by_content mode id d m) n in
      (sym r.0, sym r.1)

  -- question 13
  pub too_short : mode ≤ 1 → content id d ≡ 0 → length b < length (frame (mode_of mode) id d)
      → (refused 13 ≡ frame_written mode id d b) × (b ≡ frame_filled mode id d b)
  too_short m e k =
      let r = delivery.short (refusal_of mode id d) (frame (mode_of mode) id d) b (by_content mode id d m ∙ e) k in
      (sym r.0, sym r.1)

  -- all are yes
  pub all_written : mode ≤ 1 → content id d ≡ 0 → length (frame (mode_of mode) id d) ≤ length b
      → (accepted (length (frame (mode_of mode) id d)) ≡ frame_written mode id d b)
      × (placed b 0 (frame (mode_of mode) id d) ≡ frame_filled mode id d b)
  all_written m e k =
      let r = delivery.writes (refusal_of mode id d) (frame (mode_of mode) id d) b (by_content mode id d m ∙ e) k in
      (sym r.0, sym r.1)

  -- only then is the answer 0
  pub written_judged : (frame_written mode id d b).refusal ≡ 0
      → (mode ≤ 1) × (content id d ≡ 0) × (length (frame (mode_of mode) id d) ≤ length b)
  written_judged z =
      let j = delivery.written_judged (refusal_of mode id d) (frame (mode_of mode) id d) b z in
      let w = passed (ltb 1 mode) refl j.0 in
      (w.0, w.1, j.1)
    where
      passed : (t : Bool) → ltb 1 mode ≡ t → cond t 1 (content id d) ≡ 0 → (mode ≤ 1) × (content id d ≡ 0)
      passed true p q = absurd (omega arith)
      passed false p q = (ltb-false 1 mode p, q)

  -- and the bytes that were written are the frame
  pub written_back : (frame_written mode id d b).refusal ≡ 0
      → take (frame_written mode id d b).length (frame_filled mode id d b) ≡ frame (mode_of mode) id d
  written_back z = delivery.written_back (refusal_of mode id d) (frame (mode_of mode) id d) b z
