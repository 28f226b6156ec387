-- The latest messages that are taken over are those that the old record shows, and so is the whole record; today's, made into old ones, come back.
use mathlib.Core.Bool.{Bool, true, false}
use mathlib.Core.List.{List}
use mathlib.Core.Path.{◌≡◌, refl, sym, ap, ◌∙◌}
use Prim.Native.Nat.{ℕ}
use lib.ListN.{replicate}
use Rattle.std.specs.Prelude.{Option, Some, None}
use Rattle.std.specs.Bool.{then_some}
use Rattle.std.specs.Option.{is_some, unwrap_or}
use Rattle.line.specs.Record.{Kept}
use Rattle.line.specs.Record.Kept.{k_43, k_46, k_4a, k_4b, k_eb}
use Rattle.latest.specs.Latest.{latest_of, perhaps as perhaps_held}
use Rattle.latest.specs.declared.Latest.{Latest}
use Rattle.record.specs.View.{place_of, first_bytes, view}
use Rattle.takeover.specs.declared.Latest32.{Latest32}
use Rattle.takeover.specs.declared.Reader32.{Reader32}
use Rattle.takeover.specs.Takeover.{perhaps, latest32_of, latest_from, latest32_from, same_parts, view32}

same_data : (t : Bool) (d : List ℕ) → perhaps_held (then_some t d) ≡ perhaps t d
same_data true d = refl
same_data false d = refl

-- each kind's
pub same_latest : (l : Latest32) (k : Kept) → latest_of (latest_from l) k ≡ latest32_of l k
same_latest l k_43 = same_data l.has43 l.d43
same_latest l k_46 = same_data l.has46 l.d46
same_latest l k_4a = same_data l.has4a l.d4a
same_latest l k_4b = same_data l.has4b l.d4b
same_latest l k_eb = same_data l.haseb l.deb

-- a record of these parts shows what the old one does
pub same_view : (o : Reader32) → view (same_parts o) ≡ view32 o
same_view o =
    let h = o.head in
    λ i. record {
      mode = h.mode;
      place = place_of h.place h.id (first_bytes h.len o.bytes) h.c1 h.c2;
      fed = h.fed;
      accepted = h.accepted;
      refused = h.refused;
      outside = h.outside;
      pending = h.pending;
      latest = λ k. same_latest o.latest k i;
    }

again : (o : Option (List ℕ)) (z : List ℕ) → then_some (is_some o) (unwrap_or o z) ≡ o
again (Some d) z = refl
again None z = refl

-- today's latest messages, with a flag each and back
pub same_flagged : (l : Latest) → latest_from (latest32_from l) ≡ l
same_flagged l =
    λ i. record {
      d43 = again l.d43 (replicate 6 0) i;
      d46 = again l.d46 (replicate 10 0) i;
      d4a = again l.d4a (replicate 33 0) i;
      d4b = again l.d4b (replicate 42 0) i;
      deb = again l.deb (replicate 26 0) i;
    }

-- and the old record shows them as today's does
pub shown_flagged : (l : Latest) (k : Kept) → latest32_of (latest32_from l) k ≡ latest_of l k
shown_flagged l k = sym (same_latest (latest32_from l) k) ∙ ap (λ (m : Latest). latest_of m k) (same_flagged l)
