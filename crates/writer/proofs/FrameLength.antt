-- The length of a frame: stuffing doubles each 10h, and the other parts have a fixed length.
use mathlib.Core.Bool.{cond}
use mathlib.Core.List.{List}
use mathlib.Core.Path.{◌≡◌, refl, ap, ◌∙◌}
use Prim.Native.Nat.{ℕ, zero, suc, ◌+◌, ◌*◌, ◌≤◌, ◌<◌}
use native.Mathlib.Omega.{arith}
use borrow.Author.Tests.{lt-ltb, le-ltb}
use lib.Dec.{ltb}
use lib.ListN.{length, length-append}
use Rattle.stuffing.specs.Stuffing.{stuffed, dles}
use Rattle.stuffing.proofs.StuffingLaws.{length_stuffed, dles_le}
use Rattle.line.specs.Frame.{Mode, mode_of, sum_field, frame}
use Rattle.line.specs.Frame.Mode.{plain, summed}
use Rattle.line.specs.Table.{capacity}
use Rattle.writer.specs.Writing.{length_on_line}

-- the parts of a frame, added up
pub parts_length : (m : Mode) (id : ℕ) (d : List ℕ) → length (frame m id d) ≡ 2 + length (stuffed d) + length (sum_field m id d) + 2
parts_length m id d = simp length-append (omega arith)

-- n data bytes, k of them 10h, have a frame of n + k + 4 bytes, and of 4 more with a checksum
pub frame_plain : (id : ℕ) (d : List ℕ) → length (frame plain id d) ≡ length d + dles d + 4
frame_plain id d = omega (arith, parts_length plain id d, length_stuffed d)

pub frame_summed : (id : ℕ) (d : List ℕ) → length (frame summed id d) ≡ length d + dles d + 8
frame_summed id d = omega (arith, parts_length summed id d, length_stuffed d)

-- stuffing doubles each byte at most
pub frame_most : (m : Mode) (id : ℕ) (d : List ℕ) → length (frame m id d) ≤ 2 * length d + 8
frame_most plain id d = omega (arith, frame_plain id d, dles_le d)
frame_most summed id d = omega (arith, frame_summed id d, dles_le d)

-- a mode that is not 0 has a checksum
pub not_plain : (m : ℕ) → (m ≡ 0 → ⊥) → mode_of m ≡ summed
not_plain zero n = absurd (n refl)
not_plain (suc m) n = refl

-- the answer's three cases
module _ (mode id : ℕ) (d : List ℕ) where
  pub no_mode : 1 < mode → length_on_line mode id d ≡ 0
  unfolding length_on_line
  no_mode m = λ k. cond (lt-ltb 1 mode m k) 0 (cond (ltb capacity (length d)) 0 (length (frame (mode_of mode) id d)))

  pub too_long : mode ≤ 1 → capacity < length d → length_on_line mode id d ≡ 0
  unfolding length_on_line
  too_long m l = λ k. cond (le-ltb 1 mode m k) 0 (cond (lt-ltb capacity (length d) l k) 0 (length (frame (mode_of mode) id d)))

  pub length_on_line_lem : mode ≤ 1 → length d ≤ capacity → length_on_line mode id d ≡ length (frame (mode_of mode) id d)
  unfolding length_on_line
  length_on_line_lem m l = λ k. cond (le-ltb 1 mode m k) 0 (cond (le-ltb capacity (length d) l k) 0 (length (frame (mode_of mode) id d)))

  -- in each mode, by the bytes that stuffing doubles
  pub plain_on_line : mode ≡ 0 → length d ≤ capacity → length_on_line mode id d ≡ length d + dles d + 4
  plain_on_line z l = length_on_line_lem (omega arith) l ∙ ap (λ m. length (frame (mode_of m) id d)) z ∙ frame_plain id d

  pub summed_on_line : (mode ≡ 0 → ⊥) → mode ≤ 1 → length d ≤ capacity → length_on_line mode id d ≡ length d + dles d + 8
  summed_on_line z m l = length_on_line_lem m l ∙ ap (λ k. length (frame k id d)) (not_plain mode z) ∙ frame_summed id d
