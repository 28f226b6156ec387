-- What a write into a lent buffer leaves there.
use Rattle.std.specs.Prelude.{Bool, cond, List, ◌++◌, ℕ, ◌+◌, leb, length, take, drop}

-- n bytes from a place on are within d
abbrev pub fits : List ℕ → ℕ → ℕ → Bool
fits d at n = leb (at + n) (length d)

-- d with these bytes at this place and no other byte changed; d itself where they are not within it
unfoldable pub placed : List ℕ → ℕ → List ℕ → List ℕ
placed d at s = cond (fits d at (length s)) (take at d ++ (s ++ drop (at + length s) d)) d
