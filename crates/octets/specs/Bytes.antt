-- The byte at a place, and lists of bytes.
use Rattle.std.specs.Prelude.{List, ℕ, ◌<◌, length, get_or}

-- 0 past the end
abbrev pub byte : List ℕ → ℕ → ℕ
byte d i = get_or d i 0

-- every number of the list is a byte
abbrev pub Bytes : List ℕ → Type 0
Bytes d = (i : ℕ) → i < length d → byte d i < 256
