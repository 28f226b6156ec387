-- Document 02, Point 10: the messages of a list, taken one after the other.
use Rattle.std.specs.Prelude.{List, [], ℕ, ◌+◌, ◌≡◌, ◌≤◌, ◌<◌, length, drop, Option, None, Some, Result, Ok, Err}
use Rattle.std.specs.Borrow.{Bor}
use Rattle.refusals.specs.declared.Refusal.{Refusal}
use Rattle.refusals.specs.Numbers.{number}
use Rattle.octets.specs.Bytes.{byte}
use Rattle.batch.specs.declared.Message.{Message}
use Rattle.batch.specs.declared.Messages.{Messages}
use Rattle.batch.specs.Entries.{Entry, length_in, wrong, header_of, body_in, limit, Contents, ahead, contents_of, AcceptableEntry}
use Rattle.batch.specs.Entries.Contents.{entries, refused}

-- the first entry of the bytes s as it stands, and the bytes after it; none where s ends before it does
abbrev pub Splits : List ℕ → Option (Message × Bor (List ℕ)) → Type 0
Splits s (Some x) =
    (3 + length_in s ≤ length s) × (x.0.id ≡ byte s 0) × (x.0.data.now ≡ body_in (length_in s) s) × (x.1.now ≡ drop (3 + length_in s) s)
Splits s None = length s < 3 + length_in s

-- m is the first message of the bytes s, and t are the bytes after it
abbrev pub First : List ℕ → Message → List ℕ → Type 0
First s m t =
    (header_of s ≡ record { refusal = 0; id = m.id; length = length m.data.now })
    × (m.data.now ≡ body_in (length m.data.now) s) × (t ≡ drop (3 + length m.data.now) s)

-- the first message of the bytes s and the bytes after it, or the refusal of their first entry
abbrev pub GivesFirst : List ℕ → Result (Message × Bor (List ℕ)) Refusal → Type 0
GivesFirst s (Ok x) = First s x.0 x.1.now
GivesFirst s (Err r) = header_of s ≡ wrong (number r)

-- what is left to take, and how many bytes that is
abbrev pub left : Messages → Contents
left m = contents_of m.rest.now

abbrev pub bytes_left : Messages → ℕ
bytes_left m = length m.rest.now

-- those of a list that a call returned, or its refusal
abbrev pub opened : Result Messages Refusal → Contents
opened (Ok m) = left m
opened (Err r) = refused (number r)

-- all the bytes s of a list are left, or 19 refuses it, which is too long
abbrev pub Opens : List ℕ → Result Messages Refusal → Type 0
Opens s (Ok m) = (length s ≤ limit) × (m.rest.now ≡ s)
Opens s (Err r) = (limit < length s) × (number r ≡ 19)

abbrev pub entry : Message → Entry
entry m = record { id = m.id; body = m.data.now }

-- a call gives the first message, which is acceptable, and the bytes after it are left; or the refusal of the first entry, and no byte is
-- left; or the end, where no byte was
abbrev pub Gives : Messages → Option (Result Message Refusal) → Messages → Type 0
Gives s (Some (Ok m)) t =
    (left s ≡ ahead (entry m) (left t)) × AcceptableEntry (entry m) × (bytes_left s ≡ 3 + length m.data.now + bytes_left t)
    × First s.rest.now m t.rest.now
Gives s (Some (Err r)) t =
    (left s ≡ refused (number r)) × (left t ≡ entries [])
    × (0 < bytes_left s) × (header_of s.rest.now ≡ wrong (number r)) × (bytes_left t ≡ 0)
Gives s None t = (left s ≡ entries []) × (left t ≡ entries []) × (bytes_left s ≡ 0) × (bytes_left t ≡ 0)
