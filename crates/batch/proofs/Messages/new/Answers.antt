-- `Messages::new` meets its contract: first of all 19 of a list that is too long.
use Rattle.std.proofs.Common.{refl, sym}
use Rattle.batch.proofs.ContentsLaws.{list_long, list_short}
use Rattle.batch.proofs.Messages.new.Goals as goal

pub returns-then-list-gt-LIMIT : goal.returns-then-list-gt-LIMIT
returns-then-list-gt-LIMIT c = (sym (list_long c.args.list.now c.if-list-gt-LIMIT.true), tt, (c.if-list-gt-LIMIT.true, refl))

pub returns : goal.returns
returns c = (sym (list_short c.args.list.now c.if-list-gt-LIMIT.false), c.if-list-gt-LIMIT.false, (c.if-list-gt-LIMIT.false, refl))
