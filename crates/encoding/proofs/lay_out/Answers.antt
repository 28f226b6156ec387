-- `lay_out` meets its contract: entry by entry, each right after the one before it.
use Rattle.std.proofs.Common.{rules, ◌≡◌, sym, ap, ◌∙◌}
use Prim.Native.Nat.{◌+◌, ◌*◌, ◌/◌, ◌≤◌}
use native.Mathlib.Omega.{arith}
use native.Mathlib.Nat.{mul-suc, mul-le-mul_left}
use lib.ListN.{length, get_or}
use Rattle.std.proofs.Math.Nat.{mul-div-le}
use Rattle.octets.proofs.PlacingLaws.{placed_nil}
use Rattle.encoding.specs.Entries.{laid_out, Long}
use Rattle.encoding.proofs.EntryLaws.{get_d_any, long_more, laid_next}
use Rattle.encoding.proofs.lay_out.Goals as goal

pub loop-i-init : goal.loop-i-init
unfolding laid_out
loop-i-init g c = ((λ j h. absurd (omega arith)), sym (placed_nil _ 0))

pub loop-i-preserved : goal.loop-i-preserved
loop-i-preserved g c =
    let s = g.E.Entry.series in
    let es = c.args.entries.now in
    let i = c.loop-i.i in
    let w = g.met.E.Entry.wide in
    let e : c.to_bytes.result ≡ s.entry_data (get_or es i s.blank) =
    c.to_bytes.ensures ∙ ap s.entry_data (c.index-entries-i.is ∙ get_d_any es i _ s.blank (omega (arith, c.loop-i-test.true))) in
    let full : length c.to_bytes.result ≡ g.row.WIDTH = search rules in
    let long : Long s es (i + 1) = long_more s es i c.loop-i.invariant.0 (sym (ap length e) ∙ full ∙ sym w.0) in
    let room : g.row.WIDTH * (length c.args.buf.now / g.row.WIDTH) ≤ length c.args.buf.now = mul-div-le _ _ in
    let upto : g.row.WIDTH * (i + 1) ≤ g.row.WIDTH * (length c.args.buf.now / g.row.WIDTH) =
    mul-le-mul_left g.row.WIDTH (omega (arith, c.loop-i-test.true, c.if-buf-entries.false)) in (
      long,
      c.put.ensures.1
          ∙ laid_next (λ j. s.entry_data (get_or es j s.blank)) s.width _ 0 i (g.row.WIDTH * i) long (rw w.0 (omega arith)) (rw w.0 (omega (arith, room, upto, mul-suc g.row.WIDTH i))) _ c.loop-i.invariant.1 _ e,
    )
