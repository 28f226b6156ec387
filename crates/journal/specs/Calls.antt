-- Document 02, Point 11: what writing a list and reading a record answer.
use Rattle.std.specs.Prelude.{Bool, true, false, cond, not, ◌&&◌, List, [], ℕ, ◌+◌, eqb, ltb, length, take, drop, replicate, Option, None, Some, Result, Ok, Err}
use Rattle.refusals.specs.declared.Refusal.{Refusal}
use Rattle.refusals.specs.Numbers.{number}
use Rattle.octets.specs.Bytes.{byte}
use Rattle.octets.specs.Placing.{placed}
use Rattle.octets.specs.Delivery.{written_of, filled_of}
use Rattle.octets.specs.Delivery.{Written}
use Rattle.numbers.specs.Number.{number_at}
use Rattle.kinds.specs.Kinds.{content}
use Rattle.batch.specs.Entries.{Contents, list_of}
use Rattle.batch.specs.Entries.Contents.{entries, refused}
use Rattle.journal.specs.Records.{restored, records_of}
use Rattle.journal.specs.declared.Entry.{Entry as Given}

-- the refusal that a list meets, and its records
abbrev pub refusal_in : Contents → ℕ
refusal_in (entries xs) = 0
refusal_in (refused v) = v

abbrev pub records_in : Contents → List ℕ
records_in (entries xs) = records_of xs
records_in (refused v) = []

-- how long they are
abbrev pub measured : Contents → Written
measured c = record { refusal = refusal_in c; length = length (records_in c) }

-- the answer for a list s and a buffer b, and the buffer afterwards
abbrev pub journal_written : List ℕ → List ℕ → Written
journal_written s b = written_of (refusal_in (list_of s)) (records_in (list_of s)) b

abbrev pub journal_filled : List ℕ → List ℕ → List ℕ
journal_filled s b = filled_of (refusal_in (list_of s)) (records_in (list_of s)) b

-- what reading answers by the papers' numbers: a refusal's, or 0 with the identifier, the length of the data, the bytes taken, and the data
pub record Entry : Type 0 where
  pub refusal : ℕ
  pub id : ℕ
  pub length : ℕ
  pub taken : ℕ
  pub bytes : List ℕ

-- the end (0) and a refused record: no identifier, no data, nothing taken
abbrev pub nothing : ℕ → Entry
nothing v = record { refusal = v; id = 0; length = 0; taken = 0; bytes = replicate 1024 0 }

-- a message: its data, and zeros past it; its record has 5 bytes more
abbrev pub given : ℕ → List ℕ → Entry
given id d = record { refusal = 0; id = id; length = length d; taken = 5 + length d; bytes = placed (replicate 1024 0) 0 d }

abbrev pub judged : ℕ → ℕ → List ℕ → Entry
judged v id d = cond (eqb v 0) (given id d) (nothing v)

-- the message that a call returned, and what reading returned: no message is the end
abbrev pub message : Given → Entry
message e = record { refusal = 0; id = e.id; length = e.length; taken = e.taken; bytes = e.bytes }

abbrev pub entry : Result (Option Given) Refusal → Entry
entry (Ok None) = nothing 0
entry (Ok (Some e)) = message e
entry (Err r) = nothing (number r)

-- whether it returned the end, and neither a message nor a refusal
abbrev pub ended : Result (Option Given) Refusal → Bool
ended (Ok None) = true
ended (Ok (Some e)) = false
ended (Err r) = false

-- the first record of the bytes
abbrev pub marked : List ℕ → Bool
marked s = eqb (byte s 0) 0x4E && eqb (byte s 1) 0x56

abbrev pub length_in : List ℕ → ℕ
length_in s = number_at s 3 2

abbrev pub data_in : List ℕ → List ℕ
data_in s = restored (byte s 2) (take (length_in s) (drop 5 s))

-- no bytes are the end; 20 of two bytes that are not the mark; 21 of a record cut short; then 10 to 12 of the data in line order
unfoldable pub read_of : List ℕ → Entry
read_of s =
    cond (eqb (length s) 0) (nothing 0)
    (cond (ltb 1 (length s) && not (marked s)) (nothing 20)
    (cond (ltb (length s) 5) (nothing 21)
    (cond (ltb (length s) (5 + length_in s)) (nothing 21)
    (judged (content (byte s 2) (data_in s)) (byte s 2) (data_in s)))))
