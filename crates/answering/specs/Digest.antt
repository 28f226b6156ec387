-- The digest of the test programs, which tells buffers apart that are too long to print.
use Rattle.std.specs.Prelude.{List, ℕ, ◌+◌, ◌*◌, ◌%◌}
use Rattle.std.specs.List.{fold}

-- one byte more
abbrev pub digested_byte : ℕ → ℕ → ℕ
digested_byte d b = (d % 65521 * 31 + b) % 65521

abbrev pub digested : ℕ → List ℕ → ℕ
digested = fold digested_byte
