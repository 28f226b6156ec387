-- `takeover::take_over`: what questions 1 and 2 answer of today's record.
use Rattle.std.proofs.Common.{rules}
use Rattle.takeover.proofs.Resuming.{admitted}
use Rattle.takeover.proofs.take_over.Goals as goal

pub returns : goal.returns
returns c = admitted c.args.old _ _ (search rules) (search rules) c.admit.ensures.asked c.admit.ensures.accepted c.admit.ensures.refused
