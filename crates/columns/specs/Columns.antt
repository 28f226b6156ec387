-- Document 02, Point 11: repeated entries by column. A header stays in front; then come the first bytes of all entries, then their
-- second bytes, and so on.
use Rattle.std.specs.Prelude.{Bool, cond, ◌&&◌, List, ◌++◌, ℕ, ◌+◌, ◌*◌, ◌-◌, ◌/◌, ◌%◌, eqb, leb, length, take, drop}
use Rattle.octets.specs.Bytes.{byte}
use Rattle.encoding.specs.Entries.{firsts, laid_out}

-- byte j of each of n entries of w bytes
abbrev pub column : ℕ → ℕ → List ℕ → ℕ → List ℕ
column n w s j = firsts (λ i. byte s (w * i + j)) n

-- column after column. They are w entries of n bytes: with n and w exchanged this is the way back
unfoldable pub crossed : ℕ → ℕ → List ℕ → List ℕ
crossed n w s = laid_out (column n w s) w

-- n bytes are a header of h and whole entries of w, one or more
unfoldable pub whole : ℕ → ℕ → ℕ → Bool
whole h w n = leb h n && leb 1 w && eqb ((n - h) % w) 0

abbrev pub count_of : ℕ → ℕ → List ℕ → ℕ
count_of h w d = (length d - h) / w

-- from rows to columns, and from columns to rows; data that is no header and whole entries stays as it is
unfoldable pub by_columns : ℕ → ℕ → List ℕ → List ℕ
by_columns h w d = cond (whole h w (length d)) (take h d ++ crossed (count_of h w d) w (drop h d)) d

unfoldable pub by_rows : ℕ → ℕ → List ℕ → List ℕ
by_rows h w d = cond (whole h w (length d)) (take h d ++ crossed w (count_of h w d) (drop h d)) d

-- one of the two ways
abbrev pub rearranged : Bool → ℕ → ℕ → List ℕ → List ℕ
rearranged back h w d = cond back (by_rows h w d) (by_columns h w d)
