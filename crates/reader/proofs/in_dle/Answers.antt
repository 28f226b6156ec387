-- `reader::in_dle` meets its contract: the table in FD, of a DLE.
use Rattle.std.proofs.Common.{◌≡◌, refl, arith}
use Rattle.stuffing.specs.Stuffing.{DLE}
use Rattle.record.specs.View.{place_of}
use Rattle.record.proofs.Data.{is_dle}
use Rattle.refusals.specs.declared.Refusal.TheVariants.{TooLong}
use Rattle.reader.proofs.Rows.{steps_refused, steps_stored, full_join}
use Rattle.reader.proofs.in_dle.Goals as goal

pub returns-then-k-lt-CAPACITY-clause-moves : goal.returns-then-k-lt-CAPACITY-clause-moves
unfolding place_of
returns-then-k-lt-CAPACITY-clause-moves c _ =
    rw (c.go.ensures, c.moving_of-w.ensures)
    (steps_stored c.requires.taken (is_dle DLE refl) refl c.requires.held.whole c.if-k-lt-CAPACITY.true c.requires.held.pends)

pub returns-else-k-lt-CAPACITY-clause-moves : goal.returns-else-k-lt-CAPACITY-clause-moves
unfolding place_of
returns-else-k-lt-CAPACITY-clause-moves c _ =
    let x = c.args in
    let l : x.m.len ≡ 1024 = omega (arith, c.if-k-lt-CAPACITY.false, c.requires.taken.fits.short) in
    rw c.shut.ensures
    (steps_refused c.requires.taken TooLong (is_dle DLE refl) (full_join x.m.id x.d.now x.m.len DLE _ c.requires.held.whole l) (omega arith) c.requires.held.pends)
