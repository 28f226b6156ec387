-- Document 01, "Kinds and fields": integers are low byte first, at any width.
use Rattle.std.specs.Prelude.{cond, List, [], ◌∷◌, ℕ, zero, suc, ◌+◌, ◌*◌, ◌/◌, ◌%◌, leb, length, take, drop}

-- the number that these bytes stand for
unfoldable pub number_of : List ℕ → ℕ
number_of [] = 0
number_of (b ∷ s) = b + 256 * number_of s

-- the n bytes of a number
unfoldable pub bytes_of : ℕ → ℕ → List ℕ
bytes_of zero x = []
bytes_of (suc n) x = x % 256 ∷ bytes_of n (x / 256)

-- the number in the n bytes from a place on; 0 where there are fewer
unfoldable pub number_at : List ℕ → ℕ → ℕ → ℕ
number_at s at n = cond (leb (at + n) (length s)) (number_of (take n (drop at s))) 0
