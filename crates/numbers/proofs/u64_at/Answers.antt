-- `numbers::u64_at` meets its contract: the language's own reading is the number that the bytes stand for.
use Rattle.std.proofs.Common.{◌∙◌, rules}
use Rattle.numbers.proofs.NumberLaws.{read_through}
use Rattle.numbers.proofs.u64_at.Goals as goal

pub returns : goal.returns
returns c = c.from_le_bytes.ensures ∙ read_through 7 _ (search rules) ∙ c.bytes_at.ensures
