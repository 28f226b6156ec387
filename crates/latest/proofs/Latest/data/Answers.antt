-- `Latest::data` meets its contract: in an arm the identifier is a kind's.
use Rattle.line.specs.Record.Kept.{k_43, k_46, k_4a, k_4b, k_eb}
use Rattle.latest.proofs.Latest.data.Goals as goal

pub returns-in-67-clause-other : goal.returns-in-67-clause-other
returns-in-67-clause-other c n = absurd (n k_43 c.in-67.is)

pub returns-in-70-clause-other : goal.returns-in-70-clause-other
returns-in-70-clause-other c n = absurd (n k_46 c.in-70.is)

pub returns-in-74-clause-other : goal.returns-in-74-clause-other
returns-in-74-clause-other c n = absurd (n k_4a c.in-74.is)

pub returns-in-75-clause-other : goal.returns-in-75-clause-other
returns-in-75-clause-other c n = absurd (n k_4b c.in-75.is)

pub returns-in-235-clause-other : goal.returns-in-235-clause-other
returns-in-235-clause-other c n = absurd (n k_eb c.in-235.is)
