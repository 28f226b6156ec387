-- `list_parts` meets its contract. The loop's invariant is `Underway`; each turn takes a byte or is the last.
use Rattle.std.proofs.Common.{◌-◌, length}
use Rattle.record.specs.View.{view}
use Rattle.lister.specs.Listing.{text}
use Rattle.lister.proofs.Parts.{Underway}
use Rattle.lister.proofs.list_parts.Given as goal

abbrev pub invariant-loop-buf : goal.invariant-loop-buf
invariant-loop-buf l = Underway l.write (text (view l.initial.g) l.s) l.s l.initial.buf l.buf l.g l.lines l.at l.to

abbrev pub decreases-loop-buf : goal.decreases-loop-buf
decreases-loop-buf l = length l.s - l.at
