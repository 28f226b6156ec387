-- `reader::in_fd` meets its contract: the table in FD.
use Rattle.std.proofs.Common.{refl, sym, ap, ◌∙◌, ◌+◌, take, arith}
use Rattle.line.specs.Frame.{mode_of, judge}
use Rattle.line.specs.Frame.Class.{etx, sum}
use Rattle.line.specs.Table.{pending, ends}
use Rattle.line.specs.Table.State.{FD}
use Rattle.line.proofs.Classes.{class_other}
use Rattle.record.specs.View.{place_of}
use Rattle.record.proofs.Data.{is_etx, is_sum}
use Rattle.refusals.specs.declared.Refusal.TheVariants.{Cut, SumMissing, SumUnexpected}
use Rattle.reader.proofs.Rows.{placed, row_mode, mode_summed, steps_went, steps_refused, steps_reopened, steps_ended}
use Rattle.reader.proofs.in_fd.Goals as goal

pub returns-in-16-clause-moves : goal.returns-in-16-clause-moves
returns-in-16-clause-moves c = rw c.in-16.is (c.in_dle.ensures.moves c.args.mode)

pub returns-then-mode-eq0-clause-moves : goal.returns-then-mode-eq0-clause-moves
unfolding place_of
returns-then-mode-eq0-clause-moves c =
    let x = c.args in
    let d = take x.m.len x.d.now in
    rw c.shut.ensures
    (steps_ended c.requires.taken (is_etx x.b c.in-3.is)
    (row_mode (placed x.m x.d.now 3) etx x.b (ap mode_of c.if-mode-eq0.true) refl
    ∙ (λ i. ends (judge (ap mode_of (sym c.if-mode-eq0.true) i) x.m.id d x.m.c1 x.m.c2) x.m.id d (pending (FD x.m.id d) + 1)))
    (omega arith) c.requires.held.pends)

pub returns-else-mode-eq0-clause-moves : goal.returns-else-mode-eq0-clause-moves
unfolding place_of
returns-else-mode-eq0-clause-moves c =
    let x = c.args in
    rw c.shut-else-mode-eq0.ensures
    (steps_refused c.requires.taken SumMissing (is_etx x.b c.in-3.is)
    (row_mode (placed x.m x.d.now 3) etx x.b (mode_summed x.mode c.if-mode-eq0.false) refl) (omega arith) c.requires.held.pends)

pub returns-then-mode-eq0-2-clause-moves : goal.returns-then-mode-eq0-2-clause-moves
unfolding place_of
returns-then-mode-eq0-2-clause-moves c =
    let x = c.args in
    rw c.shut-then-mode-eq0-2.ensures
    (steps_refused c.requires.taken SumUnexpected (is_sum x.b c.in-255.is)
    (row_mode (placed x.m x.d.now 3) sum x.b (ap mode_of c.if-mode-eq0-2.true) refl) (omega arith) c.requires.held.pends)

pub returns-else-mode-eq0-2-clause-moves : goal.returns-else-mode-eq0-2-clause-moves
unfolding place_of
returns-else-mode-eq0-2-clause-moves c =
    let x = c.args in
    rw c.go.ensures
    (steps_went c.requires.taken (is_sum x.b c.in-255.is)
    (row_mode (placed x.m x.d.now 3) sum x.b (mode_summed x.mode c.if-mode-eq0-2.false) refl) refl (omega arith) c.requires.held.pends)

pub returns-in-0-to-2-clause-moves : goal.returns-in-0-to-2-clause-moves
unfolding place_of
returns-in-0-to-2-clause-moves c =
    let no = c.in-0-to-2.in-0-to-2-own.rest in
    rw c.shut-in-0-to-2.ensures
    (steps_reopened c.requires.taken Cut (class_other c.args.b no.0.0.1 no.0.1 no.1) refl (omega arith) (omega arith) c.requires.held.pends)
