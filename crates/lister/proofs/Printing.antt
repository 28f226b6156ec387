-- What a program prints that lists its bytes in parts, over the contracts of the code alone: whatever the parts, it is the listing of
-- all the bytes.
use mathlib.Core.Bool.{Bool, cond}
use mathlib.Core.List.{List, ◌++◌}
use mathlib.Core.Path.{◌≡◌, refl, sym, ap, ◌∙◌}
use Prim.Native.Nat.{ℕ}
use native.Mathlib.Omega.{arith}
use lib.ListN.{length, take, drop}
use Rattle.octets.specs.Delivery.{Counts}
use Rattle.line.specs.Record.{Rec, event_of, stepped, fresh}
use Rattle.line.specs.Record.Fresh.{made}
use Rattle.record.specs.declared.Reader.{Reader}
use Rattle.record.specs.declared.Fresh.{Fresh}
use Rattle.record.specs.View.{view}
use Rattle.record.specs.Posts.{FreshPost}
use Rattle.listing.specs.Text.{total_of}
use Rattle.lister.specs.declared.Part.{Part}
use Rattle.lister.specs.Listing.{line_of, text, segment}
use Rattle.refusals.specs.Numbers.{why}
use Rattle.lister.specs.Posts.{PartPost, Good, Prints}
use Rattle.lister.specs.Posts.Prints.{ended, full, part}
use Rattle.lister.proofs.SegmentLaws.{segment_by, text_segment_more}
use Rattle.lister.proofs.PartLaws.{part_is, part_good, part_lines}
use Rattle.lister.proofs.FreshLaws.{fresh_good}

-- where the next byte can't be counted, the total follows
full_segment : (l m : List ℕ) (room : ℕ) (r : Rec) → (segment room r l).refusal ≡ 3
    → text (segment room r l).after (drop (segment room r l).taken (l ++ m)) ≡ total_of (segment room r l).after
full_segment l m =
    segment_by (λ room r k p. p.refusal ≡ 3 → text p.after (drop p.taken (k ++ m)) ≡ total_of p.after) (λ room r h. absurd (omega arith))
    (λ room r k q h. absurd (omega arith))
    (λ room r b bs k h. ap (λ (c : Bool). cond c (line_of r.fed (event_of r b) ++ text (stepped r b) (bs ++ m)) (total_of r)) k)
    (λ room r b bs p k h. h) l

-- one call
module _ (r : Reader) (s b : List ℕ) (x : Part) (b' : List ℕ) (q : PartPost r s b x b') (c : Counts x.length b') (g : Good r) where
  whole : (m : List ℕ) → text (view r) (s ++ m) ≡ take x.length b' ++ text (view x.reader) (drop x.taken (s ++ m))
  whole m =
      let is = part_is r s b x b' q c g in
      text_segment_more s m (length b) (view r)
      ∙ sym (λ i. part_lines r s b x b' q c g i ++ text (is.0 i) (drop (is.2 i) (s ++ m)))

  last : (m : List ℕ) → why x.refusal ≡ 3 → text (view x.reader) (drop x.taken (s ++ m)) ≡ total_of (view x.reader)
  last m z =
      let is = part_is r s b x b' q c g in
      (λ i. text (is.0 i) (drop (is.2 i) (s ++ m)))
      ∙ full_segment s m (length b) (view r) (sym is.1 ∙ z)
      ∙ sym (ap total_of is.0)

prints : {r : Reader} {l out : List ℕ} → Prints r l out → Good r → out ≡ text (view r) l
prints ended g = refl
prints (full {r = r} s m b x b' q c z) g =
    ap (λ (y : List ℕ). take x.length b' ++ y) (sym (last r s b x b' q c g m z)) ∙ sym (whole r s b x b' q c g m)
prints (part {r = r} s m b x b' q c t) g =
    ap (λ (y : List ℕ). take x.length b' ++ y) (prints t (part_good r s b x b' q c g)) ∙ sym (whole r s b x b' q c g m)

-- THE THEOREM: begun with a fresh reader, what is printed of the bytes l is their listing
pub printed : (m : ℕ) (f : Fresh) → FreshPost m f → why f.refusal ≡ 0 → {l out : List ℕ} → Prints f.reader l out
    → (r : Rec) → fresh m ≡ made r → out ≡ text r l
printed m f q z {l} t r e =
    let w = fresh_good m f q z in
    prints t w.1 ∙ ap (λ (v : Rec). text v l) (same (sym w.0 ∙ e))
  where
    same : {a b : Rec} → made a ≡ made b → a ≡ b
    same h = cc
