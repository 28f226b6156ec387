-- `ends_in_zeros` meets its contract: the range gives the four places.
use Rattle.std.proofs.Common.{refl, ◌∙◌, rules, tests, ℕ, eqb}
use Rattle.octets.specs.Bytes.{byte}
use Rattle.std.proofs.lemmas.Iterator.{YieldsList-from_range}
use Rattle.std.proofs.lemmas.Iterator.Search.{all_from_yields_List}
use Rattle.ranges.proofs.ChainLaws.{all_range}
use Rattle.ranges.proofs.ends_in_zeros.Goals as goal

pub returns : goal.returns
returns c =
    let zero_at = λ (at : ℕ). eqb (byte c.args.body.now at) 0 in
    all_from_yields_List zero_at _ _ _ c.all.ensures.ran (YieldsList-from_range 2 6 4 refl refl) (λ x b q k. search (rules, tests)) ∙ all_range zero_at 4 2
