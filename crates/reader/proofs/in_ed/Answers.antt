-- `reader::in_ed` meets its contract: the table in ED.
use Rattle.std.proofs.Common.{◌≡◌, refl, sym, ap, subst, inl, inr, ◌+◌, take, arith}
use Rattle.line.specs.Frame.{mode_of, judge}
use Rattle.line.specs.Frame.Mode.{summed}
use Rattle.line.specs.Table.{pending, ends, row}
use Rattle.line.specs.Table.State.{ED}
use Rattle.line.specs.Record.{ModeOk}
use Rattle.line.proofs.Classes.{class_other}
use Rattle.record.specs.View.{place_of}
use Rattle.record.proofs.Data.{is_dle, is_etx, is_sum}
use Rattle.refusals.specs.declared.Refusal.TheVariants.{EndMissing}
use Rattle.reader.proofs.Rows.{placed, in_place, steps_refused, steps_reopened, steps_ended}
use Rattle.reader.proofs.in_ed.Goals as goal

pub returns-in-3 : goal.returns-in-3
unfolding place_of
returns-in-3 c k a v h =
    let x = c.args in
    let u : mode_of k ≡ summed = subst (ModeOk (mode_of k)) (in_place x.m a 7 c.requires.taken.here) v.mode in
    rw c.shut.ensures
    (steps_ended c.requires.taken
    (is_etx x.b c.in-3.is)
    (λ i. ends (judge (sym u i) x.m.id (take x.m.len a) x.m.c1 x.m.c2) x.m.id (take x.m.len a) (pending (ED x.m.id (take x.m.len a) x.m.c1 x.m.c2) + 1))
    (omega arith) h.pends)

pub returns-in-16 : goal.returns-in-16
unfolding place_of
returns-in-16 c k a u h =
    let b = c.args.b in
    let s = placed c.args.m a 7 in
    rw c.shut-in-16.ensures
    (steps_refused c.requires.taken EndMissing
    refl
    (elim c.in-16.is [ inl q ↦ ap (λ t. row (mode_of k) s t b) (is_dle b q) | inr q ↦ ap (λ t. row (mode_of k) s t b) (is_sum b q) ])
    (omega arith) h.pends)

pub returns-in-0-to-2 : goal.returns-in-0-to-2
unfolding place_of
returns-in-0-to-2 c k a u h =
    let no = c.in-0-to-2.in-0-to-2-own.rest in
    rw c.shut-in-0-to-2.ensures
    (steps_reopened c.requires.taken EndMissing (class_other c.args.b (λ q. no.1 (inl q)) no.0.1 (λ q. no.1 (inr q))) refl
    (omega arith) (omega arith) h.pends)
