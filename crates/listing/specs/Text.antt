-- Document 01, "Proved cases": the lines that listoff and liston print, in ASCII.
use Rattle.std.specs.Prelude.{cond, List, [], ◌∷◌, ◌++◌, ℕ, zero, suc, ◌+◌, ◌*◌, ◌/◌, ◌%◌, ltb}
use Rattle.line.specs.Record.{Rec}

abbrev pub space : ℕ
space = 32

abbrev pub newline : ℕ
newline = 10

-- a digit from 0 to 9; 48 is "0"
abbrev pub digit : ℕ → ℕ
digit n = 48 + n

-- n in decimal, by at most k divisions
unfoldable pub decimal_in : ℕ → ℕ → List ℕ
decimal_in zero n = digit n ∷ []
decimal_in (suc k) n = cond (ltb n 10) (digit n ∷ []) (decimal_in k (n / 10) ++ (digit (n % 10) ∷ []))

-- n in decimal, without leading zeros; n divisions are always enough
unfoldable pub decimal : ℕ → List ℕ
decimal n = decimal_in n n

-- a digit from 0 to F; 65 is "A"
abbrev pub hex_digit : ℕ → ℕ
hex_digit n = cond (ltb n 10) (48 + n) (55 + n)

abbrev pub hexadecimal : ℕ → List ℕ
hexadecimal b = hex_digit (b / 16) ∷ hex_digit (b % 16) ∷ []

-- numbers in decimal, a space before each
unfoldable pub decimals : List ℕ → List ℕ
decimals [] = []
decimals (n ∷ ns) = (space ∷ decimal n) ++ decimals ns

-- offset, identifier, number (0 if a message was given), bytes closed
unfoldable pub event_line : ℕ → ℕ → ℕ → ℕ → List ℕ
event_line offset id number closed =
    decimal offset ++ ((space ∷ hexadecimal id) ++ (decimals (number ∷ closed ∷ []) ++ (newline ∷ [])))

-- "total", then fed, accepted, refused, outside, pending
unfoldable pub total_line : ℕ → ℕ → ℕ → ℕ → ℕ → List ℕ
total_line fed accepted refused outside pending =
    (116 ∷ 111 ∷ 116 ∷ 97 ∷ 108 ∷ []) ++ (decimals (fed ∷ accepted ∷ refused ∷ outside ∷ pending ∷ []) ++ (newline ∷ []))

-- of a record
abbrev pub total_of : Rec → List ℕ
total_of r = total_line r.fed r.accepted r.refused r.outside r.pending

-- the digits of the largest count
abbrev pub count_digits : ℕ
count_digits = 20

-- the longest lines: of an event, whose number has three digits, and of the total
abbrev pub longest_event : ℕ
longest_event = 2 * count_digits + 9

abbrev pub longest_total : ℕ
longest_total = 5 * count_digits + 11
