-- What a test returns.
use Rattle.std.specs.Prelude.{Bool, true, false}

-- a Bool that says whether P holds
abbrev pub Decides : Type 0 → Bool → Type 0
Decides P true = P
Decides P false = P → ⊥
