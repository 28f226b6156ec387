-- What the rows of the sources' tables are as bytes. FP32 and FP64 are kept as their bits.
use Rattle.std.specs.Prelude.{Bool, true, cond, ◌&&◌, List, [], ◌∷◌, ◌++◌, ℕ, ◌+◌, ◌*◌, ◌/◌, ◌^◌, ◌<◌, leb, ℤ, length}
use Rattle.std.specs.Int.Signed.{mag}
use Rattle.numbers.specs.Number.{bytes_of}
use Rattle.numbers.specs.Signed.{unsigned}

-- a row: a type, by how many bytes it takes, and a value of it; the type may be signed
pub data Row : Type 0 where
  natural : ℕ → ℕ → Row
  integer : ℕ → ℤ → Row

abbrev pub INT8U : ℕ → Row
INT8U x = natural 1 x

abbrev pub INT8S : ℤ → Row
INT8S z = integer 1 z

abbrev pub INT16U : ℕ → Row
INT16U x = natural 2 x

abbrev pub INT16S : ℤ → Row
INT16S z = integer 2 z

abbrev pub INT32U : ℕ → Row
INT32U x = natural 4 x

abbrev pub FP32 : ℕ → Row
FP32 x = natural 4 x

abbrev pub FP64 : ℕ → Row
FP64 x = natural 8 x

abbrev pub width : Row → ℕ
width (natural n x) = n
width (integer n z) = n

abbrev pub bits : Row → ℕ
bits (natural n x) = x
bits (integer n z) = unsigned (8 * n) z

-- the type holds the value
abbrev pub Held : Row → Type 0
Held (natural n x) = x < 256 ^ n
Held (integer n z) = mag z < 256 ^ n / 2

abbrev pub AllHeld : List Row → Type 0
AllHeld [] = Unit {0}
AllHeld (r ∷ rs) = Held r × AllHeld rs

-- the bytes of the rows, one row after the other
unfoldable pub joined : List Row → List ℕ
joined [] = []
joined (r ∷ rs) = bytes_of (width r) (bits r) ++ joined rs

-- the same from widths and words apart, as the code has them
abbrev pub words : List Row → List ℕ
words [] = []
words (r ∷ rs) = bits r ∷ words rs

unfoldable pub laid : List ℕ → List ℕ → List ℕ
laid [] xs = []
laid (n ∷ ns) [] = []
laid (n ∷ ns) (x ∷ xs) = bytes_of n x ++ laid ns xs

unfoldable pub total : List ℕ → ℕ
total [] = 0
total (n ∷ ns) = n + total ns

-- no width is above that of a u64
unfoldable pub short : List ℕ → Bool
short [] = true
short (n ∷ ns) = leb n 8 && short ns

-- such widths, which add up to no more than the room
abbrev pub within : List ℕ → ℕ → Bool
within ns room = short ns && leb (total ns) room

-- there is a word for each width, and together they are no longer than the longest data of such a kind, 49h of GPS
unfoldable pub packs : List ℕ → ℕ → Bool
packs ns count = leb (length ns) count && within ns 130

-- the data: the words where they pack, else none
unfoldable pub packed : List ℕ → List ℕ → List ℕ
packed ns xs = cond (packs ns (length xs)) (laid ns xs) []
