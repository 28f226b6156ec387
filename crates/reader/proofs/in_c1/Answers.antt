-- `reader::in_c1` meets its contract: the table in C1.
use Rattle.std.proofs.Common.{refl, arith}
use Rattle.record.specs.View.{place_of}
use Rattle.reader.proofs.Rows.{steps_went}
use Rattle.reader.proofs.in_c1.Goals as goal

pub returns : goal.returns
unfolding place_of
returns c k a h = rw (c.go.ensures, c.moving_of-w.ensures) (steps_went c.requires refl refl refl (omega arith) h.pends)
