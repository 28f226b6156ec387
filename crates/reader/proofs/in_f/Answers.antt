-- `reader::in_f` meets its contract: the bytes stored raise nothing, and then a DLE, a byte too many or the end.
use Rattle.std.proofs.Common.{◌≡◌, refl, ◌∙◌, subst, List, ℕ, ◌+◌, ◌-◌, ◌≤◌, length, take, get_or, length-take, length-take-le, arith}
use mathlib.Core.Path.{subst⁻¹}
use Rattle.line.specs.Frame.{mode_of}
use Rattle.line.specs.Record.{PlaceOk, IdOk}
use Rattle.record.specs.View.{place_of}
use Rattle.record.proofs.Data.{is_dle}
use Rattle.refusals.specs.declared.Refusal.TheVariants.{TooLong}
use Rattle.reader.specs.Moving.{Pends, Sound, Fits}
use Rattle.reader.specs.declared.Moving.{Moving}
use Rattle.reader.proofs.Feeding.{Silent, goes_of, then_goes, then_stop}
use Rattle.reader.proofs.Bulk.{inner, silent_within, pends_within, f_other}
use Rattle.reader.proofs.Rows.{in_place, taken_at, steps_went, steps_refused, full_join}
use Rattle.reader.proofs.in_f.Goals as goal
use Rattle.reader.proofs.in_f.Goals.{After-fill-to}

-- the place stays possible while data join
f_sound : (k : ℕ) (m : Moving) (a : List ℕ) (w : Moving) (a' : List ℕ) → m.place ≡ 2 → w.place ≡ 2 → w.id ≡ m.id → w.len ≤ 1024 → Sound k m a
    → Sound k w a'
unfolding place_of
f_sound k m a w a' p q i l h =
    let u = subst IdOk (in_place m a 2 p) h.identifier in
    subst⁻¹ (PlaceOk (mode_of k)) (in_place w a' 2 q)
    (record { mode = tt; identifier = rw i u; size = omega (arith, length-take w.len a') })

-- the array and the numbers once the bytes up to a place are stored
abbrev array : After-fill-to → List ℕ
array j = j.fill-to.new.d

abbrev moved : After-fill-to → Moving
moved j = inner j.args.m (j.fill-to.result - j.args.at)

module _ (j : After-fill-to) where
  abbrev before : List ℕ
  before = j.args.d.now

  abbrev bytes : List ℕ
  bytes = j.args.s.now

  -- they raise nothing, whatever the mode
  silent : (k : ℕ) → Silent k j.args.m before (moved j) (array j) bytes j.args.at j.fill-to.result j.args.n
  silent k =
      let x = j.args in
      let p = j.requires in
      let y = j.fill-to.ensures in
      let l : length (take x.m.len before) ≡ x.m.len = length-take-le x.m.len before (omega (arith, p.held.whole, p.fits.short)) in
      silent_within k x.m before (array j) bytes x.at j.fill-to.result x.n p.at_lt_n.2 y.least y.most p.at_lt_n.1 y.none p.held.pends l y.held y.same

  pends : Pends (moved j) (array j)
  pends =
      let x = j.args in
      let p = j.requires in
      let y = j.fill-to.ensures in
      pends_within 0 x.m before (array j) bytes x.at j.fill-to.result x.n p.at_lt_n.2 y.least y.most p.at_lt_n.1 y.none p.held.pends y.same

  sound : (k : ℕ) → Sound k j.args.m before → Sound k (moved j) (array j)
  sound k = f_sound k j.args.m before (moved j) (array j) j.requires.at_lt_n.2 j.requires.at_lt_n.2 refl j.fill-to.ensures.held

  fits : Fits (moved j) j.fill-to.result j.args.n
  fits =
      let p = j.requires in
      let y = j.fill-to.ensures in
      record { known = p.fits.known; short = y.held; room = omega (arith, p.fits.room, y.least) }

  tally : (moved j).outside + (moved j).pending + j.args.at ≡ j.args.m.outside + j.args.m.pending + j.fill-to.result
  tally =
      let y = j.fill-to.ensures in
      omega (arith, y.least)

pub returns-then-b-eq-DLE : goal.returns-then-b-eq-DLE
unfolding place_of
returns-then-b-eq-DLE c k =
    let j = (goal.at.returns-then-b-eq-DLE c).After-fill-to in
    let p = c.requires in
    let y = c.fill-to.ensures in
    rw (c.go.ensures, c.moving_of-w.ensures)
    (then_goes (silent j k) y.least (tally j) (sound j k)
    (goes_of
    (steps_went (taken_at (fits j) c.if-to-n.true p.at_lt_n.2) (is_dle (get_or c.args.s.now c.fill-to.result 0) c.if-b-eq-DLE.true) refl refl (omega arith) (pends j))
    c.if-to-n.true p.at_lt_n.1 y.whole))

pub returns-else-b-eq-DLE : goal.returns-else-b-eq-DLE
unfolding place_of
returns-else-b-eq-DLE c k =
    let j = (goal.at.returns-else-b-eq-DLE c).After-fill-to in
    let p = c.requires in
    let y = c.fill-to.ensures in
    let m = moved j in
    let b = get_or c.args.s.now c.fill-to.result 0 in
    rw (c.shut.ensures, c.moving_of-w.ensures)
    (then_goes (silent j k) y.least (tally j) (sound j k)
    (goes_of
    (steps_refused (taken_at (fits j) c.if-to-n.true p.at_lt_n.2) TooLong refl
    (f_other (mode_of k) m.id (take m.len (array j)) b c.if-b-eq-DLE.false
    ∙ full_join m.id (array j) m.len b _ y.whole (y.stop c.if-to-n.true c.if-b-eq-DLE.false))
    (omega arith) (pends j))
    c.if-to-n.true p.at_lt_n.1 y.whole))

pub returns-else-to-n : goal.returns-else-to-n
returns-else-to-n c k =
    let j = (goal.at.returns-else-to-n c).After-fill-to in
    let y = c.fill-to.ensures in
    rw (c.quiet.ensures, c.moving_of-w.ensures)
    (then_stop (silent j k) (omega arith) y.most (tally j) (fits j) (pends j) (sound j k) y.whole)
