-- Bytes listed one after the other, in however many parts: the record after all of them, and 0; or the record before the first that
-- can't be counted, and 3.
use Rattle.std.specs.Prelude.{cond, List, [], ◌∷◌, ℕ, ltb}
use Rattle.line.specs.Record.{Rec, limit, stepped}

pub record Through : Type 0 where
  pub after : Rec
  pub refusal : ℕ

abbrev pub until : ℕ → Rec → Through
until v r = record { after = r; refusal = v }

abbrev pub through : Rec → List ℕ → Through
through r [] = until 0 r
through r (b ∷ bs) = cond (ltb r.fed limit) (through (stepped r b) bs) (until 3 r)
