-- `decode_empty` meets its contract: by the refusal.
use Rattle.std.proofs.lemmas.Grind.{common_steps}
use native.Mathlib.Omega.{arith}
use Rattle.refusals.proofs.NumberLaws.{positive}
use Rattle.encoding.proofs.DecodedLaws.{refuses, gives}
use Rattle.fields_byte.specs.Fields.{decoded_empty_of}
use Rattle.fields_byte.proofs.decode_empty.Goals as goal

pub returns : goal.returns
unfolding decoded_empty_of
returns c = grind (arith, common_steps, gives, refuses, positive)
