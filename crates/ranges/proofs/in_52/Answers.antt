-- `in_52` meets its contract: the pieces of seven bytes are the entries.
use Rattle.std.proofs.Common.{◌≡◌, refl, ◌∙◌, List, [], ◌∷◌, ℕ, ◌*◌, ◌/◌, arith, rules, tests, length, take, drop}
use Rattle.std.proofs.lemmas.Iterator.Search.{all_from_yields_List}
use Rattle.numbers.proofs.NumberLaws.{number_in}
use Rattle.ranges.specs.Ranges.{all, entry}
use Rattle.ranges.proofs.ChainLaws.{chunks_yield, all_pieces}
use Rattle.ranges.proofs.in_52.Goals as goal

-- an entry is its first seven bytes
first_seven : (l : List ℕ) → entry (take 7 l) ≡ entry l
first_seven [] = refl
first_seven (a ∷ []) = refl
first_seven (a ∷ b ∷ []) = refl
first_seven (a ∷ b ∷ c ∷ []) = refl
first_seven (a ∷ b ∷ c ∷ d ∷ []) = refl
first_seven (a ∷ b ∷ c ∷ d ∷ e ∷ []) = refl
first_seven (a ∷ b ∷ c ∷ d ∷ e ∷ f ∷ []) = refl
first_seven (a ∷ b ∷ c ∷ d ∷ e ∷ f ∷ g ∷ l) =
    rw (number_in (a ∷ b ∷ c ∷ d ∷ e ∷ f ∷ g ∷ []) 4 2 (omega arith), number_in (a ∷ b ∷ c ∷ d ∷ e ∷ f ∷ g ∷ l) 4 2 (omega arith))

pub returns : goal.returns
returns c =
    let d = c.args.body.now in
    all_from_yields_List entry _ _ _ c.all.ensures.ran (chunks_yield 7 d (omega arith) (cc) (cc)) (λ x b q k. search (rules, tests))
    ∙ all_pieces entry 7 (length d / 7) d
    ∙ (λ t. all (length d / 7) (λ i. first_seven (drop (7 * i) d) t))
