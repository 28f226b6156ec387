-- Document 01, "The frame": stuffed data has each 10h twice.
use Rattle.std.specs.Prelude.{Bool, cond, not, ◌&&◌, List, [], ◌∷◌, ℕ, ◌+◌, eqb, leb, length, get_or}

abbrev pub DLE : ℕ
DLE = 0x10

abbrev pub other : ℕ → Bool
other b = not (eqb b DLE)

unfoldable pub stuffed : List ℕ → List ℕ
stuffed [] = []
stuffed (b ∷ s) = cond (eqb b DLE) (b ∷ b ∷ stuffed s) (b ∷ stuffed s)

-- how many of the bytes are 10h
unfoldable pub dles : List ℕ → ℕ
dles [] = 0
dles (b ∷ s) = cond (eqb b DLE) 1 0 + dles s

-- four bytes from a place on are there, and none of them is 10h
unfoldable pub four_plain : List ℕ → ℕ → Bool
four_plain s i =
    leb (i + 4) (length s)
    && (((other (get_or s i 0) && other (get_or s (i + 1) 0)) && other (get_or s (i + 2) 0)) && other (get_or s (i + 3) 0))
