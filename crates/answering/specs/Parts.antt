-- A list that a call gives in parts: after two bytes that are the caller's, a count and a length in two bytes each, then bytes. So many of
-- these are a part, which is laid down so many times, as often as there is room; the rest follows it once.
use Rattle.std.specs.Prelude.{Bool, cond, List, ◌++◌, Option, None, Some, ℕ, ◌+◌, ◌/◌, min, leb, length, take, drop}
use Rattle.std.specs.List.{repeat}
use Rattle.numbers.specs.Number.{number_at}
use Rattle.octets.specs.Placing.{placed}

-- s: the call's bytes; b: the buffer
module _ (s b : List ℕ) where
  abbrev pub size : ℕ
  size = number_at s 4 2

  -- no byte of a part is missing
  abbrev pub whole : Bool
  whole = leb (6 + size) (length s)

  abbrev pub parts : List ℕ
  parts = repeat (min (number_at s 2 2) (length b / size)) (take size (drop 6 s))

  abbrev pub text : List ℕ
  text = parts ++ drop size (drop 6 s)

  abbrev pub has_room : Bool
  has_room = leb (length text) (length b)

  -- how much of the buffer the text takes; none where bytes of the call are missing or the rest has no room
  abbrev pub laid : Option ℕ
  laid = cond whole (cond has_room (Some (length text)) None) None

  -- the buffer afterwards: the text from its start on; where the rest has no room, the parts alone
  abbrev pub laid_into : List ℕ
  laid_into = cond whole (placed b 0 (cond has_room text parts)) b
