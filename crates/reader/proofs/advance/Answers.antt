-- `reader::advance` meets its contract: each place by its function.
use Rattle.std.proofs.Common.{◌≡◌, refl, get_or, ap, ◌∙◌, arith}
use Rattle.line.specs.Table.{pending}
use Rattle.stuffing.specs.Stuffing.{DLE}
use Rattle.record.specs.View.{place_of}
use Rattle.reader.proofs.Feeding.{goes_of}
use Rattle.record.proofs.Data.{is_dle}
use Rattle.reader.proofs.Rows.{in_place, taken_at, steps_went}
use Rattle.reader.proofs.advance.Goals as goal

pub in_w-requires-clause-at_lt_n : goal.in_w-requires-clause-at_lt_n
unfolding place_of
in_w-requires-clause-at_lt_n c =
    let p = c.requires in
    (p.at_lt_n.0, p.at_lt_n.1, c.in-0.is, p.held.pends ∙ ap pending (in_place c.args.m c.args.d.now 0 c.in-0.is))

pub in_wd-requires-clause-pending : goal.in_wd-requires-clause-pending
unfolding place_of
in_wd-requires-clause-pending c = c.requires.held.pends ∙ ap pending (in_place c.args.m c.args.d.now 1 c.in-1.is)

pub in_e-requires-clause-pending : goal.in_e-requires-clause-pending
unfolding place_of
in_e-requires-clause-pending c = omega (arith, c.requires.held.pends, ap pending (in_place c.args.m c.args.d.now 6 c.in-6.is))

pub in_ed-requires-clause-pending : goal.in_ed-requires-clause-pending
unfolding place_of
in_ed-requires-clause-pending c =
    let e : c.args.m.place ≡ 7 = omega arith in
    omega (arith, c.requires.held.pends, ap pending (in_place c.args.m c.args.d.now 7 e))

pub returns-in-1 : goal.returns-in-1
returns-in-1 c =
    let p = c.requires in
    goes_of (c.in_wd.ensures c.args.mode c.args.d.now p.held.whole) p.at_lt_n.0 p.at_lt_n.1 p.held.whole

pub returns-in-2 : goal.returns-in-2
unfolding place_of
returns-in-2 c =
    let p = c.requires in
    let x = c.args in
    rw c.go.ensures
    (goes_of
    (steps_went (taken_at p.fits.0 p.at_lt_n.0 c.in-2.is) (is_dle (get_or x.s.now x.at 0) c.if-b-eq-DLE.true) refl refl (omega arith) p.held.pends)
    p.at_lt_n.0 p.at_lt_n.1 p.held.whole)

pub returns-in-3 : goal.returns-in-3
returns-in-3 c =
    let e : get_or c.args.s.now c.args.at 0 ≡ DLE = c.if-b-eq-DLE-2.true in
    goes_of (rw e (c.in_dle.ensures.moves c.args.mode)) c.requires.at_lt_n.0 c.requires.at_lt_n.1 c.in_dle.ensures.d_len

pub returns-in-3-2 : goal.returns-in-3-2
returns-in-3-2 c = goes_of c.in_fd.ensures.moves c.requires.at_lt_n.0 c.requires.at_lt_n.1 c.in_fd.ensures.d_len

pub returns-in-4 : goal.returns-in-4
returns-in-4 c =
    let p = c.requires in
    goes_of (c.in_c0.ensures c.args.mode c.args.d.now p.held) p.at_lt_n.0 p.at_lt_n.1 p.held.whole

pub returns-in-5 : goal.returns-in-5
returns-in-5 c =
    let p = c.requires in
    goes_of (c.in_c1.ensures c.args.mode c.args.d.now p.held) p.at_lt_n.0 p.at_lt_n.1 p.held.whole

pub returns-in-6 : goal.returns-in-6
returns-in-6 c =
    let p = c.requires in
    goes_of (c.in_e.ensures c.args.mode c.args.d.now p.held) p.at_lt_n.0 p.at_lt_n.1 p.held.whole

pub returns-in_default : goal.returns-in_default
returns-in_default c =
    let p = c.requires in
    goes_of (c.in_ed.ensures c.args.mode c.args.d.now p.fits.1 p.held) p.at_lt_n.0 p.at_lt_n.1 p.held.whole
