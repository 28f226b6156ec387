-- The five counts of a record.
use Rattle.record.specs.declared.Head.{Head}
use Rattle.listing.specs.declared.Totals.{Totals}

abbrev pub totals_of : Head → Totals
totals_of h = record { fed = h.fed; accepted = h.accepted; refused = h.refused; outside = h.outside; pending = h.pending }
