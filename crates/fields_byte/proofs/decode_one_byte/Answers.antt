-- `decode_one_byte` meets its contract: by the refusal, then field by field.
use Rattle.std.proofs.lemmas.Grind.{common_steps}
use native.Mathlib.Omega.{arith}
use Rattle.refusals.proofs.NumberLaws.{positive}
use Rattle.encoding.proofs.DecodedLaws.{refuses, gives}
use Rattle.fields_byte.specs.Fields.{decoded_of}
use Rattle.fields_byte.proofs.decode_one_byte.Goals as goal

pub returns-in_err-judge : goal.returns-in_err-judge
unfolding decoded_of
returns-in_err-judge c = grind (arith, common_steps, refuses, positive)

pub returns : goal.returns
unfolding decoded_of
returns c = grind (arith, common_steps, gives)
