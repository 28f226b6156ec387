-- The turns of `list_parts`: what is listed of a slice, and where it is written what the buffer holds.
use mathlib.Core.Bool.{Bool, true, false}
use mathlib.Core.List.{List}
use mathlib.Core.Path.{◌≡◌, refl, sym, ap, ◌∙◌, subst}
use Prim.Native.Nat.{ℕ, ◌+◌, ◌-◌, ◌≤◌, ◌<◌}
use native.Mathlib.Omega.{arith}
use lib.ListN.{length, take, drop, length-append}
use Rattle.octets.specs.Placing.{placed}
use Rattle.octets.proofs.PlacingLaws.{length_placed, placed_more}
use Rattle.record.specs.declared.Reader.{Reader}
use Rattle.record.specs.View.{view}
use Rattle.lister.specs.declared.Part.{Part}
use Rattle.lister.specs.Listing.{text}
use Rattle.lister.specs.Posts.{Good, placed_if}
use Rattle.lister.proofs.PartLaws.{Listed}

length_placed_if : (write : Bool) (b : List ℕ) (at : ℕ) (t : List ℕ) → length (placed_if write b at t) ≡ length b
length_placed_if true b at t = length_placed b at t
length_placed_if false b at t = refl

-- a listing t of s, at bytes of which are listed in to bytes; where it is written, then into b₀, which is b now
pub record Underway (write : Bool) (t s b₀ b : List ℕ) (g : Reader) (lines : List ℕ) (at to : ℕ) : Type 0 where
  pub within : at ≤ length s
  pub good : Good g
  pub long : 4096 ≡ length lines
  pub same : length b ≡ length b₀
  pub fits : to ≤ length b₀
  pub room : write ≡ true → length t ≤ length b₀
  pub rest : to + length (text (view g) (drop at s)) ≡ length t
  pub placing : write ≡ true → placed b to (text (view g) (drop at s)) ≡ placed b₀ 0 t
  pub still : write ≡ false → b ≡ b₀

module _ {write : Bool} {t s b₀ b : List ℕ} {g : Reader} {lines : List ℕ} {at to : ℕ} (w : Underway write t s b₀ b g lines at to) where
  -- where it is too long nothing is written
  pub over_still : length b₀ < length t → b ≡ placed_if write b₀ 0 t
  over_still h = by write refl
    where
      by : (c : Bool) → write ≡ c → b ≡ placed_if c b₀ 0 t
      by true e = absurd (let z : ⊥ = omega (arith, w.room e) in z)
      by false e = w.still e

  -- only the total d is left
  module _ (d : List ℕ) (q : text (view g) (drop at s) ≡ d) where
    pub total_rest : to + length d ≡ length t
    total_rest = ap (λ (z : List ℕ). to + length z) (sym q) ∙ w.rest

    pub total_over : length b - to < length d → length b₀ < length t
    total_over h = omega (arith, total_rest, w.same, w.fits)

    pub total_written : (b' : List ℕ) → b' ≡ placed_if write b to d → b' ≡ placed_if write b₀ 0 t
    total_written b' e = by write refl
      where
        by : (c : Bool) → write ≡ c → b' ≡ placed_if c b₀ 0 t
        by true p =
            subst (λ (c : Bool). b' ≡ placed_if c b to d) p e
            ∙ ap (placed b to) (sym q)
            ∙ w.placing p
        by false p = subst (λ (c : Bool). b' ≡ placed_if c b to d) p e ∙ w.still p

  -- after a call that lists a part
  module _ {x : Part} {lines' : List ℕ} (l : Listed g s at x lines') where
    pub part_rest : to + (x.length + length (text (view x.reader) (drop (at + x.taken) s))) ≡ length t
    part_rest =
        ap (λ (n : ℕ). to + (n + length (text (view x.reader) (drop (at + x.taken) s)))) l.counts
        ∙ ap (λ (n : ℕ). to + n) (sym (length-append (take x.length lines') (text (view x.reader) (drop (at + x.taken) s))))
        ∙ ap (λ (z : List ℕ). to + length z) (sym l.whole)
        ∙ w.rest

    pub part_over : length b - to < x.length → length b₀ < length t
    part_over h = omega (arith, part_rest, w.same, w.fits)

    pub part_next : (b' : List ℕ) → 4096 ≡ length lines' → x.length ≤ length b - to → b' ≡ placed_if write b to (take x.length lines')
        → Underway write t s b₀ b' x.reader lines' (at + x.taken) (to + x.length)
    part_next b' k h e =
        let p : List ℕ = take x.length lines' in
        let d : List ℕ = text (view x.reader) (drop (at + x.taken) s) in
        record {
          within = l.within;
          good = l.good;
          long = k;
          same = ap length e ∙ length_placed_if write b to p ∙ w.same;
          fits = omega (arith, w.same, w.fits);
          room = w.room;
          rest = omega (arith, part_rest);
          placing = λ c.
              let f : b' ≡ placed b to p = subst (λ (y : Bool). b' ≡ placed_if y b to p) c e in
              (λ i. placed (f i) (to + l.counts i) d)
              ∙ placed_more b to p d (omega (arith, part_rest, l.counts, w.room c, w.same))
              ∙ ap (placed b to) (sym l.whole)
              ∙ w.placing c;
          still = λ c. subst (λ (y : Bool). b' ≡ placed_if y b to p) c e ∙ w.still c;
        }
