-- `utc` meets its contract: by what was decoded.
use Rattle.std.proofs.Common.{rules, ◌≡◌, sym, ap, ◌∙◌, Err}
use Rattle.dates.proofs.FieldLaws.{decoded_in_range}
use Rattle.dates.proofs.UtcLaws.{answered, answered_is}
use Rattle.dates.proofs.utc.Goals as goal

pub from_fields-requires : goal.from_fields-requires
from_fields-requires c = (decoded_in_range _ _ (sym c.in_ok-fields.ensures)).zone_in

pub returns-in_err-fields : goal.returns-in_err-fields
returns-in_err-fields c =
    let r = c.in_err-fields.field-0.0 in
    let e : c.from_residual.result ≡ Err r = search rules in
    rw e (ap answered c.in_err-fields.ensures ∙ answered_is _)

pub returns : goal.returns
returns c = c.from_fields.ensures ∙ ap answered c.in_ok-fields.ensures ∙ answered_is _
