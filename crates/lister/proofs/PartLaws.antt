-- What a part of a listing leaves of the whole, for a reader that questions 1 and 2 let pass and a buffer that holds a line.
use mathlib.Core.List.{List, ◌++◌}
use mathlib.Core.Path.{◌≡◌, refl, sym, ap, ◌∙◌, subst, subst⁻¹}
use Prim.Native.Nat.{ℕ, ◌+◌, ◌-◌, ◌≤◌}
use native.Mathlib.Omega.{arith}
use borrow.Author.Tests.{le-ltb}
use lib.ListN.{length, take, drop, length-drop}
use lib.Seq.{take_all, drop-drop}
use Rattle.octets.proofs.PlacingLaws.{length_placed}
use Rattle.std.specs.Prelude.{Result, Ok, Err, IsOk}
use Rattle.refusals.specs.declared.Refusal.{Refusal}
use Rattle.refusals.proofs.NumberLaws.{positive}
use Rattle.octets.specs.Delivery.{Written, accepted, written, written_of, filled_of, Counts}
use Rattle.octets.proofs.DeliveryLaws.{writes}
use Rattle.line.specs.Record.{Rec, Possible}
use Rattle.record.specs.declared.Reader.{Reader}
use Rattle.record.specs.View.{view}
use Rattle.listing.specs.Text.{total_of, longest_event}
use Rattle.listing.proofs.LineLaws.{read_back}
use Rattle.lister.specs.declared.Part.{Part}
use Rattle.lister.specs.Listing.{text, Segment, segment}
use Rattle.lister.specs.Posts.{PartIs, PartPost, Good}
use Rattle.lister.proofs.SegmentLaws.{text_segment, segment_mode, segment_possible, segment_end}

-- the rest of a slice
pub rest_of : (s : List ℕ) (at : ℕ) → take (length s - at) (drop at s) ≡ drop at s
rest_of s at = take_all (length s - at) (drop at s) (omega (arith, length-drop at s))

-- bytes taken of the rest of a slice are within it
pub taken_of_rest : (s : List ℕ) (at n : ℕ) → at ≤ length s → n ≤ length (take (length s - at) (drop at s)) → at + n ≤ length s
taken_of_rest s at n w f = omega (arith, ap length (rest_of s at), length-drop at s)

-- one call, on a reader that questions 1 and 2 let pass
module _ (r : Reader) (s b : List ℕ) (x : Part) (b' : List ℕ) (q : PartPost r s b x b') (c : Counts x.length b') (g : Good r) where
  abbrev p : Segment
  p = segment (length b) (view r) s

  pub part_is : PartIs p x b b'
  part_is = q.rest g.0 g.1 (λ z. absurd z)

  pub part_good : Good x.reader
  part_good = (
    omega (arith, ap (λ (v : Rec). v.mode) part_is.0, segment_mode s (length b) (view r), g.0),
    subst⁻¹ Possible part_is.0 (segment_possible s (length b) (view r) g.1),
  )

  pub part_lines : take x.length b' ≡ p.lines
  part_lines =
      let n : length p.lines ≤ length b = omega (arith, part_is.3, c.0, ap length part_is.4, length_placed b 0 p.lines) in
      read_back b b' p.lines x.length part_is.3 part_is.4 n

-- a call that lists a part of s from a place on: what it wrote, and the listing from where it stopped
pub record Listed (g : Reader) (s : List ℕ) (at : ℕ) (x : Part) (b : List ℕ) : Type 0 where
  pub good : Good x.reader
  pub within : at + x.taken ≤ length s
  pub counts : x.length ≡ length (take x.length b)
  pub whole : text (view g) (drop at s) ≡ take x.length b ++ text (view x.reader) (drop (at + x.taken) s)
  -- where it took nothing there is only the total left
  pub end : x.taken ≡ 0 → text (view x.reader) (drop (at + x.taken) s) ≡ total_of (view x.reader)

pub called : (g : Reader) (s : List ℕ) (at : ℕ) (b : List ℕ) (x : Part) (b' : List ℕ) → Good g → longest_event ≤ length b → at ≤ length s
    → PartPost g (take (length s - at) (drop at s)) b x b' → x.taken ≤ length (take (length s - at) (drop at s)) → Counts x.length b'
    → Listed g s at x b'
called g s at b x b' h k w q f c =
    record {
      good = part_good g d b x b' q' c h;
      within = taken_of_rest s at x.taken w f;
      counts = c.1;
      whole =
          text_segment d (length b) (view g)
          ∙ sym (λ i. part_lines g d b x b' q' c h i ++ text (is.0 i) (drop (is.2 i) d))
          ∙ ap (λ (z : List ℕ). take x.length b' ++ text (view x.reader) z) (drop-drop x.taken at s);
      end = λ z.
          let e = segment_end d (length b) (view g) (le-ltb (length b) longest_event k) (sym is.2 ∙ z) in
          let same : view x.reader ≡ view g = is.0 ∙ e.0 in
          let here : at + x.taken ≡ at = omega arith in
          (λ i. text (same i) (drop (here i) s)) ∙ e.1 ∙ sym (ap total_of same);
    }
  where
    d : List ℕ
    d = drop at s

    q' : PartPost g d b x b'
    q' = subst (λ (z : List ℕ). PartPost g z b x b') (rest_of s at) q

    is : PartIs (segment (length b) (view g) d) x b b'
    is = part_is g d b x b' q' c h

-- a total that fits, read back
pub total_read : (t b b' : List ℕ) (n : ℕ) → n ≡ length t → b' ≡ filled_of 0 t b → length t ≤ length b → take n b' ≡ t
total_read t b b' n e f h = read_back b b' t n e (f ∙ (writes 0 t b refl h).1) h

-- what the room holds is delivered, and its length is the answer
module _ (x : Result ℕ Refusal) (t b : List ℕ) (e : written x ≡ written_of 0 t b) (h : length t ≤ length b) where
  delivers : x ≡ Ok (length t)
  delivers = by x (e ∙ (writes 0 t b refl h).0)
    where
      by : (y : Result ℕ Refusal) → written y ≡ accepted (length t) → y ≡ Ok (length t)
      by (Ok n) q = ap (λ (k : ℕ). Ok k) (ap (λ (w : Written). w.length) q)
      by (Err r) q = absurd (positive r (ap (λ (w : Written). w.refusal) q))

  pub delivered : IsOk x
  delivered = subst⁻¹ (λ (y : Result ℕ Refusal). IsOk y) delivers refl

  pub delivered_length : (n : ℕ) → x ≡ Ok n → n ≡ length t
  delivered_length n q = ap (λ (w : Written). w.length) (sym (ap written q) ∙ e ∙ (writes 0 t b refl h).0)
