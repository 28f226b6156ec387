-- The account goes on, and every list of calls whose counts fit 32 bits has a record that is taken over.
use mathlib.Core.Path.{◌≡◌, sym, ap, ◌∙◌, subst}
use Prim.Native.Nat.{ℕ, ◌≤◌}
use native.Mathlib.Omega.{arith}
use lib.ListN.{length}
use Rattle.refusals.specs.Numbers.{why}
use Rattle.line.specs.Record.{Rec, Possible}
use Rattle.line.specs.Calls.{History, Demand3, taken}
use Rattle.line.specs.Calls.{Trace as Seen}
use Rattle.line.proofs.Mirror.{is_possible}
use Rattle.line.proofs.Each.{SoFar, so_far}
use Rattle.line.proofs.Demand3.{demand3 as demand3-seen}
use Rattle.record.specs.View.{view}
use Rattle.record.specs.declared.Reader.{Reader}
use Rattle.calls.specs.Calls.{Trace}
use Rattle.calls.proofs.Demand3.{lift, step_seen, feed_seen, demand3}
use Rattle.takeover.specs.declared.Reader32.{Reader32}
use Rattle.takeover.specs.declared.TakenOver.{TakenOver}
use Rattle.takeover.specs.Takeover.{limit32, view32, latest32_from, same_parts, TakeOverPost}
use Rattle.takeover.specs.Account.{From, joined, GoesOn, HadOld}
use Rattle.takeover.specs.Account.From.{begun, stepped, fed}
use Rattle.takeover.proofs.Kept.{same_view, same_flagged}

-- calls on a record that is seen as one which a list of calls left go on from that list
pub continues : {m : ℕ} {h : History} {q : Reader} {k : History} {r : Reader} → Seen m h (view q) → From q k r → Seen m (joined h k) (view r)
continues s begun = s
continues s (stepped {q = q} {b = b} x f p) = Seen.stepped {b = b} (continues s f) (step_seen q b x p)
continues s (fed {q = q} {bs = bs} x f p) = Seen.fed {bs = bs} (continues s f) (feed_seen q bs x p)

module _ (m : ℕ) {h : History} {r : Reader} (t : Trace m h r) (o : Reader32) (e : view r ≡ view32 o) (x : TakenOver) (p : TakeOverPost o x) where
  sofar : SoFar m h (view r)
  sofar = so_far m (lift t)

  -- the old record passes questions 1 and 2
  low : (view32 o).mode ≤ 1
  low = let q : (view32 o).mode ≡ m = ap (λ (v : Rec). v.mode) (sym e ∙ sofar.mirrors) in omega (arith, sofar.mode)

  possible : Possible (view32 o)
  possible = subst Possible (sym sofar.mirrors ∙ e) (is_possible m (taken h))

  resumed : (why x.refusal ≡ 0) × (view x.reader ≡ view32 o)
  resumed = p.asked.rest low possible (λ z. absurd z)

  -- the calls before and after, as one list: what is proved of every list of calls is true of it
  pub one_list : {k : History} {r' : Reader} → From x.reader k r' → Seen m (joined h k) (view r')
  one_list f = continues (subst (Seen m h) (e ∙ sym resumed.1) (lift t)) f

  -- THE THEOREM: where a list of calls left a record with the view of an old one, the account goes on
  pub goes_on : GoesOn m h x
  goes_on = record { taken_over = resumed.0; account = λ f. demand3-seen m (one_list f) }

-- a record in narrower counts
abbrev narrowed : Reader → Reader32
narrowed r =
    let h = r.head in
    record {
      head = record { mode = h.mode; place = h.place; id = h.id; c1 = h.c1; c2 = h.c2; len = h.len; accepted = h.accepted; refused = h.refused; outside = h.outside; pending = h.pending; fed = h.fed };
      latest = latest32_from r.latest;
      bytes = r.bytes;
    }

same_narrowed : (r : Reader) → same_parts (narrowed r) ≡ r
same_narrowed r = λ i. record { head = r.head; latest = same_flagged r.latest i; bytes = r.bytes }

-- AND IT IS NOT EMPTY: every list of calls that took at most 4,294,967,295 bytes has an old record with its view, which is taken over
pub had_old : (m : ℕ) {h : History} {r : Reader} → Trace m h r → length (taken h) ≤ limit32 → HadOld m h r
had_old m {h} {r} t l =
    record {
      old = narrowed r;
      narrow =
          record {
            fed = omega (arith, d.fed);
            accepted = omega (arith, d.fed, d.sum);
            refused = omega (arith, d.fed, d.sum);
            outside = omega (arith, d.fed, d.sum);
            pending = omega (arith, d.fed, d.sum);
          };
      seen = seen;
      parts = same_narrowed r;
      goes_on = λ x p. goes_on m t (narrowed r) seen x p;
    }
  where
    seen : view r ≡ view32 (narrowed r)
    seen = ap view (sym (same_narrowed r)) ∙ same_view (narrowed r)

    d : Demand3 m h (view r)
    d = demand3 m t
