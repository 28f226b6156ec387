-- Document 02, Point 10: a list of messages in a buffer, or the refusal that it meets first.
use Rattle.std.specs.Prelude.{cond, List, [], ◌∷◌, ◌++◌, ℕ, zero, suc, ◌+◌, eqb, ltb, length, take, drop, Result, Ok, Err}
use Rattle.refusals.specs.declared.Refusal.{Refusal}
use Rattle.refusals.specs.Numbers.{number}
use Rattle.octets.specs.Bytes.{byte}
use Rattle.numbers.specs.Number.{bytes_of, number_at}
use Rattle.kinds.specs.Kinds.{content}
use Rattle.line.specs.Frame.{Acceptable}
use Rattle.batch.specs.declared.Header.{Header as Given}

-- an entry: identifier, 16-bit length of the data low byte first, data
pub record Entry : Type 0 where
  pub id : ℕ
  pub body : List ℕ

abbrev pub entry_bytes : Entry → List ℕ
entry_bytes x = x.id ∷ (bytes_of 2 (length x.body) ++ x.body)

-- a list: its entries, one after the other
unfoldable pub list_bytes : List Entry → List ℕ
list_bytes [] = []
list_bytes (x ∷ xs) = entry_bytes x ++ list_bytes xs

-- the first entry of the bytes that are left
abbrev pub length_in : List ℕ → ℕ
length_in s = number_at s 1 2

abbrev pub body_in : ℕ → List ℕ → List ℕ
body_in n s = take n (drop 3 s)

-- an entry by the papers' numbers: a refusal's, or 0 with the identifier and the length of the data
pub record Header : Type 0 where
  pub refusal : ℕ
  pub id : ℕ
  pub length : ℕ

abbrev pub wrong : ℕ → Header
wrong v = record { refusal = v; id = 0; length = 0 }

abbrev pub judged : ℕ → ℕ → ℕ → Header
judged v id n = cond (eqb v 0) (record { refusal = 0; id = id; length = n }) (wrong v)

-- the entry that a call returned
abbrev pub header : Result Given Refusal → Header
header (Ok h) = record { refusal = 0; id = h.id; length = h.length }
header (Err r) = wrong (number r)

-- 19 where fewer than 3 bytes are left, or fewer than 3 and the length; then 10 to 12
unfoldable pub header_of : List ℕ → Header
header_of s =
    cond (ltb (length s) 3) (wrong 19)
    (cond (ltb (length s) (3 + length_in s)) (wrong 19)
    (judged (content (byte s 0) (body_in (length_in s) s)) (byte s 0) (length_in s)))

abbrev pub first_of : List ℕ → Entry
first_of s = record { id = (header_of s).id; body = body_in (header_of s).length s }

abbrev pub rest_of : List ℕ → List ℕ
rest_of s = drop (3 + (header_of s).length) s

-- what a list holds: entries, or the refusal that it meets first
pub data Contents : Type 0 where
  entries : List Entry → Contents
  refused : ℕ → Contents

abbrev pub ahead : Entry → Contents → Contents
ahead x (entries xs) = entries (x ∷ xs)
ahead x (refused v) = refused v

-- entry by entry, at most k of them
unfoldable pub contents_up_to : ℕ → List ℕ → Contents
contents_up_to zero s = entries []
contents_up_to (suc k) s =
    cond (eqb (length s) 0) (entries [])
    (cond (eqb (header_of s).refusal 0) (ahead (first_of s) (contents_up_to k (rest_of s))) (refused (header_of s).refusal))

-- each takes bytes, so that there are no more entries than bytes
unfoldable pub contents_of : List ℕ → Contents
contents_of s = contents_up_to (length s) s

abbrev pub limit : ℕ
limit = 65536

-- first of all 19 of more bytes than a list has
unfoldable pub list_of : List ℕ → Contents
list_of s = cond (ltb limit (length s)) (refused 19) (contents_of s)

-- each entry of a list has P
pub data Each (P : Entry → Type 0) : List Entry → Type 0 where
  none : Each P []
  also : {x : Entry} {xs : List Entry} → P x → Each P xs → Each P (x ∷ xs)

abbrev pub AcceptableEntry : Entry → Type 0
AcceptableEntry x = Acceptable x.id x.body
