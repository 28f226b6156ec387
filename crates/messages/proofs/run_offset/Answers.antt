-- `run_offset` needs nothing but that the offset is no NaN.
use Rattle.utc.proofs.Theorems.{seconds_number}
use Rattle.messages.proofs.run_offset.Goals as goal

pub show_offset-requires : goal.show_offset-requires
show_offset-requires g c = seconds_number _ _ _ _ _ c.offset.ensures c.in-Ok.is
