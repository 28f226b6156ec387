-- Laws of what a write leaves in a buffer: what callers use in place of its text.
use mathlib.Core.Path.{◌≡◌, refl, sym, ap, ◌∙◌}
use mathlib.Core.Bool.{Bool, true, false}
use mathlib.Core.List.{List, [], ◌∷◌, ◌++◌, append_assoc, append-nil}
use Prim.Native.Nat.{ℕ, ◌+◌, ◌-◌, ◌≤◌, ◌<◌}
use native.Mathlib.Nat.{add-zero, add_assoc, zero-add}
use native.Mathlib.Numerals.{add-one}
use native.Mathlib.Omega.{arith}
use borrow.Author.Tests.{le-leb, lt-leb, leb-true, leb-false}
use borrow.Rule.Slice.PartMut.{put_mid, Post-is}
use lib.Dec.{leb}
use lib.ListN.{length, take, drop, set, length-append, length-drop, take-append-drop}
use lib.Seq.{take_at, drop-append-add, drop-drop, drop-length, length-take-le, set_split}
use Rattle.octets.specs.Placing.{placed}

-- where the bytes are within d, and where not
pub placed_fits : (d : List ℕ) (at : ℕ) (s : List ℕ) → at + length s ≤ length d → placed d at s ≡ take at d ++ (s ++ drop (at + length s) d)
unfolding placed
placed_fits d at s h = rw (le-leb (at + length s) (length d) h)

pub placed_out : (d : List ℕ) (at : ℕ) (s : List ℕ) → length d < at + length s → placed d at s ≡ d
unfolding placed
placed_out d at s h = rw (lt-leb (at + length s) (length d) h)

-- a part of d, replaced by as many bytes
pub placed_part : (d : List ℕ) (at : ℕ) (s : List ℕ) → at + length s ≤ length d → put_mid at (at + length s - at) d s ≡ placed d at s
placed_part d at s h =
    ap (λ (l : List ℕ). take at d ++ (s ++ l)) (Post-is at (at + length s) d (omega arith)) ∙ sym (placed_fits d at s h)

pub length_placed : (d : List ℕ) (at : ℕ) (s : List ℕ) → length (placed d at s) ≡ length d
length_placed d at s = go (leb (at + length s) (length d)) refl
  where
    go : (t : Bool) → leb (at + length s) (length d) ≡ t → length (placed d at s) ≡ length d
    go true e =
        let h : at + length s ≤ length d = leb-true (at + length s) (length d) e in
        let k : at ≤ length d = omega arith in
        rw (placed_fits d at s h) (simp (length-append, length-take-le at d k, length-drop) (omega arith))
    go false e = ap length (placed_out d at s (leb-false (at + length s) (length d) e))

-- nothing to place
pub placed_nil : (d : List ℕ) (at : ℕ) → placed d at [] ≡ d
placed_nil d at = go (leb (at + 0) (length d)) refl
  where
    go : (t : Bool) → leb (at + 0) (length d) ≡ t → placed d at [] ≡ d
    go true e = placed_fits d at [] (leb-true (at + 0) (length d) e) ∙ rw add-zero (take-append-drop at d)
    go false e = placed_out d at [] (leb-false (at + 0) (length d) e)

-- more, placed right after
pub placed_more : (d : List ℕ) (at : ℕ) (p s : List ℕ) → at + length p + length s ≤ length d
    → placed (placed d at p) (at + length p) s ≡ placed d at (p ++ s)
placed_more d at p s h =
    let k : at ≤ length d = omega arith in
    let hp : at + length p ≤ length d = omega arith in
    let hs : at + length p + length s ≤ length (placed d at p) = rw (length_placed d at p) h in
    let hw : at + length (p ++ s) ≤ length d = rw (length-append p s) (omega arith) in
    let a : List ℕ = take at d ++ p in
    let b : List ℕ = drop (at + length p) d in
    let n : length a ≡ at + length p = length-append (take at d) p ∙ ap (λ (m : ℕ). m + length p) (length-take-le at d k) in
    let whole : placed d at p ≡ a ++ b = placed_fits d at p hp ∙ sym (append_assoc (take at d) p b) in
    let front : take (at + length p) (placed d at p) ≡ a = ap (take (at + length p)) whole ∙ take_at a b (at + length p) n in
    let back : drop (at + length p + length s) (placed d at p) ≡ drop (at + length (p ++ s)) d =
    ap (drop (at + length p + length s)) whole
    ∙ ap (λ (m : ℕ). drop (m + length s) (a ++ b)) (sym n)
    ∙ drop-append-add a b (length s)
    ∙ drop-drop (length s) (at + length p) d
    ∙ ap (λ (m : ℕ). drop m d) (add_assoc at (length p) (length s) ∙ ap (λ (m : ℕ). at + m) (sym (length-append p s))) in
    placed_fits (placed d at p) (at + length p) s hs
    ∙ (λ j. front j ++ (s ++ back j))
    ∙ append_assoc (take at d) p (s ++ drop (at + length (p ++ s)) d)
    ∙ ap (λ (l : List ℕ). take at d ++ l) (sym (append_assoc p s (drop (at + length (p ++ s)) d)))
    ∙ sym (placed_fits d at (p ++ s) hw)

-- one byte is a store
pub placed_one : (d : List ℕ) (at b : ℕ) → at < length d → set d at b ≡ placed d at (b ∷ [])
placed_one d at b h =
    let k : at + 1 ≤ length d = omega arith in
    rw (placed_fits d at (b ∷ []) k, add-one, set_split d at b h)

-- the first byte stored, and the others right after it
pub placed_cons : (d : List ℕ) (at b : ℕ) (s : List ℕ) → at + 1 + length s ≤ length d → placed (set d at b) (at + 1) s ≡ placed d at (b ∷ s)
placed_cons d at b s h =
    ap (λ (l : List ℕ). placed l (at + 1) s) (placed_one d at b (omega arith)) ∙ placed_more d at (b ∷ []) s h

-- one byte more, at the end of what was placed
pub placed_snoc : (d : List ℕ) (at : ℕ) (p : List ℕ) (b to : ℕ) → to ≡ at + length p → to < length d
    → set (placed d at p) to b ≡ placed d at (p ++ (b ∷ []))
placed_snoc d at p b to e h =
    placed_one (placed d at p) to b (rw (length_placed d at p) h)
    ∙ ap (λ (k : ℕ). placed (placed d at p) k (b ∷ [])) e
    ∙ placed_more d at p (b ∷ []) (omega arith)

-- from the start on
pub placed_start : (d s : List ℕ) → length s ≤ length d → placed d 0 s ≡ s ++ drop (length s) d
placed_start d s h = let k : 0 + length s ≤ length d = omega arith in placed_fits d 0 s k ∙ rw zero-add

-- as many as there are
pub placed_whole : (d s : List ℕ) → length s ≡ length d → placed d 0 s ≡ s
placed_whole d s e =
    let z : drop (length s) d ≡ [] = ap (λ (j : ℕ). drop j d) e ∙ drop-length d in
    placed_start d s (omega arith) ∙ rw z (append-nil s)
