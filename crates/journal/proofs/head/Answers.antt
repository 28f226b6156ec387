-- `head` meets its contract: the two bytes of the length are its low and its high byte.
use Rattle.std.proofs.Common.{rules}
use Rattle.numbers.specs.Number.{bytes_of}
use Rattle.journal.proofs.head.Goals as goal

pub returns : goal.returns
unfolding bytes_of
returns c = search rules
