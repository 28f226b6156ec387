-- `reader::skip` meets its contract: no byte passed is DLE.
use Rattle.std.proofs.Common.{◌≡◌, subst, ◌-◌, rules, tests, take, drop}
use Rattle.std.proofs.lemmas.Iterator.{YieldsList-from_slice, IsFirst-from_position}
use Rattle.stuffing.specs.Stuffing.{DLE}
use Rattle.reader.proofs.Bulk.{IsFirst, skipped, skipped_all}
use Rattle.reader.proofs.skip.Goals as goal
use Rattle.reader.proofs.skip.Goals.{After-position}

first : (p : After-position) → IsFirst (take (p.args.n - p.args.from) (drop p.args.from p.args.s.now)) p.position.result
first p =
    IsFirst-from_position _ _ p.position.result (λ b. b ≡ DLE) (λ b. b ≡ DLE → ⊥) p.position.ensures.ran
    (YieldsList-from_slice (take (p.args.n - p.args.from) (drop p.args.from p.args.s.now)) p.iter.ensures.rest)
    (λ x q k. search (rules, tests)) (λ x q k. search (rules, tests))

pub returns-in-Some : goal.returns-in-Some
returns-in-Some c =
    skipped c.args.s.now c.args.from c.args.n c.in-Some.passed c.requires.0 c.requires.1
    (subst (IsFirst _) c.in-Some.is (first (goal.at.returns-in-Some c).After-position))

pub returns-in-None : goal.returns-in-None
returns-in-None c =
    skipped_all c.args.s.now c.args.from c.args.n c.requires.0 c.requires.1
    (subst (IsFirst _) c.in-None.is (first (goal.at.returns-in-None c).After-position))
