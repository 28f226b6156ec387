-- Lines of hexadecimal text: 48 to 57 are the digits 0 to 9, 65 to 70 are A to F.
use Rattle.std.specs.Prelude.{cond, List, [], ◌∷◌, ℕ, ◌+◌, ◌-◌, ◌*◌, eqb, ltb, leb, take}

-- how many characters there are before the first line end
unfoldable pub line_length : List ℕ → ℕ
line_length [] = 0
line_length (b ∷ s) = cond (eqb b 10) 0 (1 + line_length s)

-- what a digit stands for; 0 for any other character
unfoldable pub digit_of : ℕ → ℕ
digit_of b = cond (ltb b 48) 0 (cond (leb b 57) (b - 48) (cond (ltb b 65) 0 (cond (leb b 70) (b - 65 + 10) 0)))

-- the bytes that these digits stand for, the high one first; a last one that is alone is high
unfoldable pub bytes_of : List ℕ → List ℕ
bytes_of [] = []
bytes_of (h ∷ []) = (digit_of h * 16) ∷ []
bytes_of (h ∷ l ∷ s) = (digit_of h * 16 + digit_of l) ∷ bytes_of s

-- as many of them as there is room for
abbrev pub parsed : ℕ → List ℕ → List ℕ
parsed room s = take room (bytes_of s)
