-- What the calls return. No contract can say which bytes a read brings, nor what becomes of those that are written.
use Rattle.std.specs.Prelude.{true, false, List, ◌≡◌, ℕ, ◌+◌, ◌<◌, ◌≤◌, ℤ, pos, negsuc, Option, Some, None, length, take, replicate}
use Rattle.refusals.specs.declared.Refusal.{Refusal}
use Rattle.refusals.specs.declared.Refusal.TheVariants.{Mode}
use Rattle.refusals.specs.Numbers.{why}
use Rattle.line.specs.Record.{Rec, fresh}
use Rattle.line.specs.Record.Fresh.{made}
use Rattle.record.specs.declared.Reader.{Reader}
use Rattle.record.specs.View.{view}
use Rattle.record.specs.Posts.{blank_record}
use Rattle.listing.specs.Text.{total_of, longest_total}
use Rattle.lister.specs.Posts.{Good}
use Rattle.streaming.specs.declared.Chunk.{Chunk}
use Rattle.streaming.specs.declared.Reads.{Reads}
use Rattle.streaming.specs.declared.Ended.{Ended}
use Rattle.streaming.specs.Through.{Through, until, through}

-- the number of what a read answered: how many bytes it brought, or -1 of an error
abbrev pub read_number : Option ℕ → ℤ
read_number (Some k) = pos k
read_number None = negsuc 0

-- what a read may answer that is handed n bytes: -1, or how many bytes it brought, at most n
abbrev pub Moved : ℕ → ℤ → Type 0
Moved n (pos k) = k ≤ n
Moved n (negsuc k) = k ≡ 0

-- what the last read answered: 0, or -1
abbrev pub Status : ℤ → Type 0
Status (pos k) = k ≡ 0
Status (negsuc k) = k ≡ 0

-- what is seen of a chunk
abbrev pub through_of : Chunk → Through
through_of x = until (why x.refusal) (view x.reader)

-- a chunk s: all of its bytes, or up to one that can't be counted. Where a write failed, the reader is the one before the chunk
pub record ChunkPost (r : Reader) (s : List ℕ) (x : Chunk) : Type 0 where
  pub good : Good x.reader
  pub all : x.written ≡ true → through_of x ≡ through (view r) s
  pub cut : x.written ≡ false → (x.reader ≡ r) × (why x.refusal ≡ 0)

-- the reads of an input: there are bytes, as many as the reads brought, such that the reader is the one after them. Unless a write
-- failed, the last read was answered by 0, the end, or by -1, an error; or a byte can't be counted
pub record ReadsPost (r : Rec) (x : Reads) : Type 0 where
  pub bytes : List ℕ
  pub read : length bytes ≡ x.read + x.rest
  pub after : through_of x.chunk ≡ through r bytes
  -- rest are those of the last read, where one of them can't be counted
  pub rest : why x.chunk.refusal ≡ 0 → x.rest ≡ 0
  pub last : x.chunk.written ≡ true → why x.chunk.refusal ≡ 0 → Status (read_number x.last)

-- the same reads, with the total of their reader
pub record TotalPost (x : Reads) (e : Ended) : Type 0 where
  pub reader : e.reader ≡ x.chunk.reader
  pub refusal : e.refusal ≡ x.chunk.refusal
  pub read : e.read ≡ x.read
  pub rest : e.rest ≡ x.rest
  pub last : e.last ≡ x.last
  pub written : e.written ≡ true → x.chunk.written ≡ true
  pub total : take e.length e.total ≡ total_of (view x.chunk.reader)

-- a listing of standard input, begun with r: the same, and the total is that of the reader
pub record InputPost (r : Rec) (e : Ended) : Type 0 where
  pub bytes : List ℕ
  pub read : length bytes ≡ e.read + e.rest
  pub after : until (why e.refusal) (view e.reader) ≡ through r bytes
  pub total : take e.length e.total ≡ total_of (view e.reader)
  pub rest : why e.refusal ≡ 0 → e.rest ≡ 0
  pub last : e.written ≡ true → why e.refusal ≡ 0 → Status (read_number e.last)

-- nothing is read
abbrev pub unread_of : Reader → Refusal → Ended
unread_of r v = record { reader = r; refusal = Some v; written = true; read = 0; rest = 0; last = Some 0; total = replicate longest_total 0; length = 0 }

-- by a fresh reader; a mode that has none is refused by 1
pub record ListedPost (m : ℕ) (e : Ended) : Type 0 where
  pub good : (r : Rec) → fresh m ≡ made r → InputPost r e
  pub bad : 1 < m → e ≡ unread_of (blank_record m) Mode
