-- `in_use::word` meets its contract: by the refusal, and by what acceptable data enables.
use Rattle.std.proofs.Common.{rules, ◌≡◌, refl, ap, Err}
use Rattle.refusals.proofs.NumberLaws.{positive}
use Rattle.encoding.proofs.DecodedLaws.{refuses, gives}
use Rattle.in_use.specs.InUse as spec
use Rattle.in_use.proofs.word.Goals as goal

pub returns-in_err-content : goal.returns-in_err-content
unfolding spec.in_use_of
returns-in_err-content c =
    let r = c.in_err-content.field-0.0 in
    let e : c.from_residual.result ≡ Err r = search rules in
    rw e (refuses spec.refuses _ _ _ c.in_err-content.ensures (positive r))

pub returns : goal.returns
unfolding spec.in_use_of
returns c = gives spec.refuses _ _ _ c.in_ok-content.ensures refl _ (ap spec.gives c.enabled-word.ensures)
