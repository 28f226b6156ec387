-- `content` meets its contract: each answer is that of the row which `find_kind` gives.
use Rattle.std.proofs.Common.{◌≡◌, sym, ◌∙◌, Some}
use Rattle.kinds.specs.Kinds.{table, row_in, listed}
use Rattle.kinds.proofs.RowLaws.{content_unlisted, content_listed}
use Rattle.kinds.proofs.content.Goals as goal
use Rattle.kinds.proofs.content.Goals.{In-Some}

-- what `find_kind` gave, as its contract has it
found : (c : In-Some) → listed (row_in table c.args.id) ≡ Some c.in-Some.kind
found c = sym c.find_kind.ensures ∙ c.in-Some.is

pub returns-in_default : goal.returns-in_default
returns-in_default c = sym (content_unlisted _ _ (sym c.find_kind.ensures ∙ c.in_default.is))

pub returns-then-not-length_ok : goal.returns-then-not-length_ok
returns-then-not-length_ok c =
    rw (content_listed _ _ _ (found (goal.at.returns-then-not-length_ok c).In-Some), sym c.length_ok.ensures ∙ c.if-not-length_ok.true)

pub returns-then-not-in_range : goal.returns-then-not-in_range
returns-then-not-in_range c =
    rw (content_listed _ _ _ (found (goal.at.returns-then-not-in_range c).In-Some), sym c.length_ok.ensures ∙ c.if-not-length_ok.false, sym c.in_range.ensures ∙ c.if-not-in_range.true)

pub returns : goal.returns
returns c =
    rw (content_listed _ _ _ (found (goal.at.returns c).In-Some), sym c.length_ok.ensures ∙ c.if-not-length_ok.false, sym c.in_range.ensures ∙ c.if-not-in_range.false)
