-- `entry_at` meets its contract: past the end no bytes are left.
use Rattle.std.proofs.Common.{sym, drop, length-drop, arith}
use Rattle.batch.proofs.EntryLaws.{no_header}
use Rattle.batch.proofs.entry_at.Goals as goal

pub returns-in_default : goal.returns-in_default
returns-in_default c = let l = c.in_default.ensures.lookup in sym (no_header (drop c.args.at c.args.list.now) (rw length-drop (omega arith)))
