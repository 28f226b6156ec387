-- Document 01, "Kinds and fields": the ranges of each kind's fields, in its order. Lengths are the table's (Kinds).
use Rattle.std.specs.Prelude.{Bool, true, cond, not, ◌&&◌, ◌||◌, List, ℕ, zero, suc, ◌+◌, ◌*◌, ◌/◌, ◌%◌, eqb, leb, ltb, ℤ, length, drop}
use Rattle.octets.specs.Bytes.{byte}
use Rattle.numbers.specs.Number.{number_at}
use Rattle.numbers.specs.Signed.{int8}
use Rattle.calendar.specs.Calendar.{date_exists}
use Rattle.satellites.specs.Satellites.{between, within, satellite, visible, carrier}

abbrev pub int8_at : List ℕ → ℕ → ℤ
int8_at d i = int8 (byte d i)

-- the test holds of each number below n; of how many it holds
unfoldable pub all : ℕ → (ℕ → Bool) → Bool
all zero f = true
all (suc n) f = all n f && f n

unfoldable pub count : ℕ → (ℕ → Bool) → ℕ
count zero f = 0
count (suc n) f = count n f + cond (f n) 1 0

abbrev pub free : List ℕ → Bool
free d = true

-- 1Fh: value 0 or 1
abbrev pub in_1f : List ℕ → Bool
in_1f d = eqb (length d) 0 || leb (byte d 0) 1

abbrev pub in_20 : List ℕ → Bool
in_20 d = satellite (byte d 0) (byte d 1)

-- INT8S hours −13 to 13, INT8S minutes −59 to 59
abbrev pub zone : ℤ → ℤ → Bool
zone h m = within 13 13 h && within 59 59 m

abbrev pub in_23 : List ℕ → Bool
in_23 d = eqb (length d) 0 || zone (int8_at d 0) (int8_at d 1)

-- the byte 2; a result byte whose bits 7–6 are 0, 1 or 3 (antenna); four zeros
abbrev pub antenna : ℕ → ℕ
antenna b = b / 64 % 4

abbrev pub in_43 : List ℕ → Bool
in_43 d = eqb (byte d 0) 2 && not (eqb (antenna (byte d 1)) 2) && all 4 (λ i. eqb (byte d (2 + i)) 0)

-- second of the week 0–604,799; day, month and year of a date that exists (document 02, Point 3), year above 1999; zone
abbrev pub in_46 : List ℕ → Bool
in_46 d =
    leb (number_at d 0 4) 604799 && date_exists (byte d 4) (byte d 5) (number_at d 6 2) && ltb 1999 (number_at d 6 2)
    && zone (int8_at d 8) (int8_at d 9)

-- 56 triples system, number, use (1 or 2); each satellite of 20h once
abbrev pub once : List ℕ → ℕ → ℕ → Bool
once d s n = eqb (count 56 (λ i. eqb (byte d (3 * i)) s && eqb (byte d (3 * i + 1)) n)) 1

abbrev pub in_47 : List ℕ → Bool
in_47 d =
    all 56 (λ i. satellite (byte d (3 * i)) (byte d (3 * i + 1)) && between 1 2 (byte d (3 * i + 2)))
    && all 32 (λ k. once d 1 (k + 1)) && all 24 (λ k. once d 2 (k + 1))

-- first byte 1: number 1–32; first byte 2: number 0–24, carrier; no other first byte
abbrev pub in_49 : List ℕ → Bool
in_49 d = (eqb (byte d 0) 1 && between 1 32 (byte d 1)) || (eqb (byte d 0) 2 && leb (byte d 1) 24 && carrier (int8_at d 2))

-- byte 16 from 0 to 3
abbrev pub in_eb : List ℕ → Bool
in_eb d = leb (byte d 16) 3

-- carrier for system 2, else FFh; elevation 0–90; azimuth 0–359; signal, any
abbrev pub entry : List ℕ → Bool
entry e =
    visible (byte e 0) (byte e 1) && cond (eqb (byte e 0) 2) (carrier (int8_at e 2)) (eqb (byte e 2) 0xFF) && leb (byte e 3) 90
    && leb (number_at e 4 2) 359

abbrev pub in_52 : List ℕ → Bool
in_52 d = all (length d / 7) (λ i. entry (drop (7 * i) d))
