-- `from_fields` meets its contract: fields that nothing refuses have bits of numbers, and an integer dt.
use Rattle.std.proofs.Common.{sym}
use Rattle.utc.proofs.FloatLaws.{finite_pattern}
use Rattle.utc.proofs.RefusalLaws.{passed}
use Rattle.utc.proofs.from_fields.Goals as goal

pub elapsed_seconds-dt-requires : goal.elapsed_seconds-dt-requires
elapsed_seconds-dt-requires c = (passed _ _ _ (sym c.in_ok-judge.ensures)).0

pub float_from_bits-a0 : goal.float_from_bits-a0
float_from_bits-a0 c = finite_pattern _ (passed _ _ _ (sym c.in_ok-judge.ensures)).1.0

pub float_from_bits-a1 : goal.float_from_bits-a1
float_from_bits-a1 c = finite_pattern _ (passed _ _ _ (sym c.in_ok-judge.ensures)).1.1
