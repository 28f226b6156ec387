-- `reader::in_w` meets its contract: the bytes skipped raise nothing, and then a DLE or the end.
use Rattle.std.proofs.Common.{◌≡◌, sym, ap, ◌∙◌, refl, List, ℕ, ◌-◌, get_or, arith}
use mathlib.Core.Path.{subst⁻¹}
use Rattle.line.specs.Frame.{mode_of}
use Rattle.line.specs.Table.{pending}
use Rattle.line.specs.Record.{PlaceOk}
use Rattle.line.proofs.Mirror.{w_ok}
use Rattle.record.specs.View.{place_of}
use Rattle.record.proofs.Data.{is_dle}
use Rattle.reader.specs.Moving.{Pends, Sound, Fits}
use Rattle.reader.specs.declared.Moving.{Moving}
use Rattle.reader.proofs.Feeding.{goes_of, then_goes, then_stop}
use Rattle.reader.proofs.Bulk.{outer, silent_wait}
use Rattle.reader.proofs.Rows.{in_place, taken_at, steps_went}
use Rattle.reader.proofs.in_w.Goals as goal

-- in W nothing pends, and the place is possible
w_pends : (m : Moving) (a : List ℕ) → m.place ≡ 0 → m.pending ≡ 0 → Pends m a
unfolding place_of
w_pends m a p h = h ∙ sym (ap pending (in_place m a 0 p))

w_sound : (k : ℕ) (m : Moving) (a : List ℕ) → m.place ≡ 0 → Sound k m a
unfolding place_of
w_sound k m a p = subst⁻¹ (PlaceOk (mode_of k)) (in_place m a 0 p) w_ok

pub returns-then-to-n : goal.returns-then-to-n
unfolding place_of
returns-then-to-n c k a w =
    let p = c.requires in
    let x = c.args in
    let s = c.skip-to.ensures in
    let r = c.skip-to.result in
    let f : Fits (outer x.m (r - x.at)) r x.n = record { known = p.fits.known; short = p.fits.short; room = omega (arith, p.fits.room, s.least) } in
    rw (c.go.ensures, c.moving_of-w.ensures)
    (then_goes (silent_wait k x.m a x.s.now x.at r x.n p.at_lt_n.2 p.at_lt_n.3 s.least s.most p.at_lt_n.1 s.none) s.least
    (omega (arith, s.least)) (λ u. w_sound k (outer x.m (r - x.at)) a p.at_lt_n.2)
    (goes_of
    (steps_went (taken_at f c.if-to-n.true p.at_lt_n.2) (is_dle (get_or x.s.now r 0) (s.stop c.if-to-n.true)) refl refl (omega arith)
    (w_pends (outer x.m (r - x.at)) a p.at_lt_n.2 p.at_lt_n.3))
    c.if-to-n.true p.at_lt_n.1 w))

pub returns-else-to-n : goal.returns-else-to-n
returns-else-to-n c k a w =
    let p = c.requires in
    let x = c.args in
    let s = c.skip-to.ensures in
    let r = c.skip-to.result in
    let m = outer x.m (r - x.at) in
    rw (c.quiet.ensures, c.moving_of-w.ensures)
    (then_stop (silent_wait k x.m a x.s.now x.at r x.n p.at_lt_n.2 p.at_lt_n.3 s.least s.most p.at_lt_n.1 s.none) (omega arith)
    s.most (omega (arith, s.least)) (record { known = p.fits.known; short = p.fits.short; room = omega (arith, p.fits.room, s.least) })
    (w_pends m a p.at_lt_n.2 p.at_lt_n.3) (λ u. w_sound k m a p.at_lt_n.2) w)
