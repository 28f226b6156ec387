-- `reader::in_wd` meets its contract: the table in WD.
use Rattle.std.proofs.Common.{refl, ap, inl, inr}
use Rattle.line.specs.Frame.{mode_of}
use Rattle.line.specs.Table.{row}
use Rattle.line.specs.Table.State.{WD}
use Rattle.line.proofs.Classes.{class_other}
use Rattle.record.specs.View.{place_of}
use Rattle.record.proofs.Data.{is_dle, is_etx, is_sum}
use Rattle.reader.proofs.Rows.{steps_passed, steps_opened}
use Rattle.reader.proofs.in_wd.Goals as goal

pub returns-in-3 : goal.returns-in-3
unfolding place_of
returns-in-3 c k a w =
    let b = c.args.b in
    rw c.pass_by.ensures
    (steps_passed c.requires.taken
    refl
    (elim c.in-3.is [
      | inl q ↦ ap (λ t. row (mode_of k) WD t b) (is_etx b q)
      | inr f ↦ elim f [ inl q ↦ ap (λ t. row (mode_of k) WD t b) (is_dle b q) | inr q ↦ ap (λ t. row (mode_of k) WD t b) (is_sum b q) ]
    ])
    c.requires.pending)

pub returns-in-0-to-2 : goal.returns-in-0-to-2
unfolding place_of
returns-in-0-to-2 c k a w =
    let no = c.in-0-to-2.in-0-to-2-own.rest.1 in
    rw c.begin.ensures
    (steps_opened c.requires.taken
    (class_other c.args.b (λ q. no (inr (inl q))) (λ q. no (inl q)) (λ q. no (inr (inr q)))) refl
    c.requires.pending)
