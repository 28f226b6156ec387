-- One call that lists a part of a chunk, and what it leaves of the chunk.
use mathlib.Core.List.{List}
use mathlib.Core.Path.{◌≡◌, sym, ◌∙◌}
use Prim.Native.Nat.{ℕ, ◌≤◌}
use borrow.Author.Tests.{le-ltb}
use lib.ListN.{length, drop}
use Rattle.octets.specs.Delivery.{Counts}
use Rattle.record.specs.declared.Reader.{Reader}
use Rattle.record.specs.View.{view}
use Rattle.listing.specs.Text.{longest_event}
use Rattle.lister.specs.declared.Part.{Part}
use Rattle.lister.specs.Listing.{segment}
use Rattle.refusals.specs.Numbers.{why}
use Rattle.lister.specs.Posts.{PartIs, PartPost, Good}
use Rattle.lister.proofs.PartLaws.{part_is, part_good}
use Rattle.streaming.specs.Through.{until, through}
use Rattle.streaming.proofs.ThroughLaws.{through_segment, segment_last}

-- the call lists s
pub record Went (g : Reader) (s : List ℕ) (x : Part) : Type 0 where
  pub good : Good x.reader
  pub left : through (view g) s ≡ through (view x.reader) (drop x.taken s)
  -- where it took nothing, nothing more can be listed
  pub end : x.taken ≡ 0 → until (why x.refusal) (view x.reader) ≡ through (view g) s

pub took : (g : Reader) (s b : List ℕ) (x : Part) (b' : List ℕ) → Good g → longest_event ≤ length b → PartPost g s b x b' → Counts x.length b' → Went g s x
took g s b x b' h k q c =
    record {
      good = part_good g s b x b' q c h;
      left = through_segment s (length b) (view g) ∙ sym (λ i. through (is.0 i) (drop (is.2 i) s));
      end = λ z. (λ i. until (is.1 i) (is.0 i)) ∙ segment_last s (length b) (view g) (le-ltb (length b) longest_event k) (sym is.2 ∙ z);
    }
  where
    is : PartIs (segment (length b) (view g) s) x b b'
    is = part_is g s b x b' q c h

-- a chunk s listed but for l: what is left to do is what was to be done
pub record Partly (r g : Reader) (s lines₀ lines l : List ℕ) : Type 0 where
  pub same : length lines ≡ length lines₀
  pub good : Good g
  pub rest : through (view r) s ≡ through (view g) l
