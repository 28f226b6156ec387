-- Both ends of each range and of each length, computed: what every kind accepts, refuses by 12 and refuses by 11.
use mathlib.Core.List.{List, [], ◌∷◌, ◌++◌, map}
use mathlib.Core.Path.{◌≡◌, refl}
use Prim.Native.Nat.{ℕ, zero, suc}
use lib.ListN.{length, replicate}
use Rattle.numbers.specs.Number.{number_of, number_at}
use Rattle.numbers.specs.Signed.{signed}
use Rattle.calendar.specs.Calendar.{leap, days_in, date_exists}
use Rattle.ranges.specs.Ranges.{all, count}
use Rattle.kinds.specs.Kinds.{table, row_in, allows, chosen_49, length_ok, content}

pub record Edges : Type 0 where
  pub id : ℕ
  pub good : List (List ℕ)
  pub outside : List (List ℕ)
  pub length : List (List ℕ)

pub edges : ℕ → List (List ℕ) → List (List ℕ) → List (List ℕ) → Edges
edges i a b c = record { id = i; good = a; outside = b; length = c }

-- the triples of a system, with the same use, numbers falling; n times the same bytes
pub triples : ℕ → ℕ → ℕ → List ℕ
triples system u zero = []
triples system u (suc n) = system ∷ suc n ∷ u ∷ triples system u n

pub times : ℕ → List ℕ → List ℕ
times zero d = []
times (suc n) d = d ++ times n d

-- 46h on a day and month, the year by its two bytes
pub on : ℕ → ℕ → ℕ → ℕ → List ℕ
on d m low high = 0 ∷ 0 ∷ 0 ∷ 0 ∷ d ∷ m ∷ low ∷ high ∷ 0 ∷ 0 ∷ []

pub kinds : List Edges
kinds =
    edges 0x1B ([] ∷ []) [] ((0 ∷ []) ∷ [])
    ∷ edges 0x1E ([] ∷ []) [] ((0 ∷ []) ∷ [])
    ∷ edges 0x26 ([] ∷ []) [] ((0 ∷ []) ∷ [])
    ∷ edges 0x54 ([] ∷ []) [] ((0 ∷ []) ∷ [])
    ∷ edges 0x21 ([] ∷ (255 ∷ []) ∷ []) [] ((0 ∷ 0 ∷ []) ∷ [])
    ∷ edges 0x24 ([] ∷ (255 ∷ []) ∷ []) [] ((0 ∷ 0 ∷ []) ∷ [])
    ∷ edges 0x27 ([] ∷ (255 ∷ []) ∷ []) [] ((0 ∷ 0 ∷ []) ∷ [])
    ∷ edges 0x2A ([] ∷ (255 ∷ []) ∷ []) [] ((0 ∷ 0 ∷ []) ∷ [])
    ∷ edges 0x1F ([] ∷ (0 ∷ []) ∷ (1 ∷ []) ∷ []) ((2 ∷ []) ∷ []) ((0 ∷ 0 ∷ []) ∷ [])
    ∷ edges 0xF4 ((255 ∷ []) ∷ []) [] ([] ∷ (0 ∷ 0 ∷ []) ∷ [])
    ∷ edges 0x20 ((1 ∷ 1 ∷ []) ∷ (1 ∷ 32 ∷ []) ∷ (2 ∷ 1 ∷ []) ∷ (2 ∷ 24 ∷ []) ∷ [])
    ((1 ∷ 0 ∷ []) ∷ (1 ∷ 33 ∷ []) ∷ (2 ∷ 0 ∷ []) ∷ (2 ∷ 25 ∷ []) ∷ (0 ∷ 1 ∷ []) ∷ (3 ∷ 1 ∷ []) ∷ (4 ∷ 120 ∷ []) ∷ (4 ∷ 158 ∷ []) ∷ [])
    ((1 ∷ []) ∷ (1 ∷ 1 ∷ 0 ∷ []) ∷ [])
    ∷ edges 0x23 ([] ∷ (13 ∷ 59 ∷ []) ∷ (243 ∷ 197 ∷ []) ∷ [])
    ((14 ∷ 0 ∷ []) ∷ (242 ∷ 0 ∷ []) ∷ (0 ∷ 60 ∷ []) ∷ (0 ∷ 196 ∷ []) ∷ [])
    ((0 ∷ []) ∷ (0 ∷ 0 ∷ 0 ∷ []) ∷ [])
    ∷ edges 0x43 ((2 ∷ 63 ∷ replicate 4 0) ∷ (2 ∷ 127 ∷ replicate 4 0) ∷ (2 ∷ 255 ∷ replicate 4 0) ∷ [])
    ((2 ∷ 128 ∷ replicate 4 0) ∷ (2 ∷ 191 ∷ replicate 4 0) ∷ (1 ∷ replicate 5 0) ∷ (3 ∷ replicate 5 0) ∷ (2 ∷ 0 ∷ 1 ∷ replicate 3 0) ∷ (2 ∷ 0 ∷ 0 ∷ 1 ∷ 0 ∷ 0 ∷ []) ∷ (2 ∷ (replicate 3 0 ++ (1 ∷ 0 ∷ []))) ∷ (2 ∷ (replicate 4 0 ++ (1 ∷ []))) ∷ [])
    ((2 ∷ replicate 4 0) ∷ (2 ∷ replicate 6 0) ∷ [])
    ∷ edges 0x46 ((0 ∷ 0 ∷ 0 ∷ 0 ∷ 1 ∷ 1 ∷ 208 ∷ 7 ∷ 13 ∷ 59 ∷ []) ∷ (127 ∷ 58 ∷ 9 ∷ 0 ∷ 31 ∷ 12 ∷ 255 ∷ 255 ∷ 243 ∷ 197 ∷ []) ∷ on 29 2 208 7 ∷ on 28 2 52 8 ∷ on 30 4 208 7 ∷ [])
    ((128 ∷ 58 ∷ 9 ∷ 0 ∷ 1 ∷ 1 ∷ 208 ∷ 7 ∷ 0 ∷ 0 ∷ []) ∷ (0 ∷ 0 ∷ 0 ∷ 0 ∷ 0 ∷ 1 ∷ 208 ∷ 7 ∷ 0 ∷ 0 ∷ []) ∷ (0 ∷ 0 ∷ 0 ∷ 0 ∷ 32 ∷ 1 ∷ 208 ∷ 7 ∷ 0 ∷ 0 ∷ []) ∷ (0 ∷ 0 ∷ 0 ∷ 0 ∷ 1 ∷ 0 ∷ 208 ∷ 7 ∷ 0 ∷ 0 ∷ []) ∷ (0 ∷ 0 ∷ 0 ∷ 0 ∷ 1 ∷ 13 ∷ 208 ∷ 7 ∷ 0 ∷ 0 ∷ []) ∷ (0 ∷ 0 ∷ 0 ∷ 0 ∷ 1 ∷ 1 ∷ 207 ∷ 7 ∷ 0 ∷ 0 ∷ []) ∷ (0 ∷ 0 ∷ 0 ∷ 0 ∷ 1 ∷ 1 ∷ 208 ∷ 7 ∷ 14 ∷ 0 ∷ []) ∷ (0 ∷ 0 ∷ 0 ∷ 0 ∷ 1 ∷ 1 ∷ 208 ∷ 7 ∷ 0 ∷ 196 ∷ []) ∷ on 30 2 208 7 ∷ on 29 2 52 8 ∷ on 31 4 208 7 ∷ [])
    ((0 ∷ 0 ∷ 0 ∷ 0 ∷ 1 ∷ 1 ∷ 208 ∷ 7 ∷ 0 ∷ []) ∷ (0 ∷ 0 ∷ 0 ∷ 0 ∷ 1 ∷ 1 ∷ 208 ∷ 7 ∷ 0 ∷ 0 ∷ 0 ∷ []) ∷ [])
    ∷ edges 0x47 ((triples 1 1 32 ++ triples 2 2 24) ∷ (triples 2 1 24 ++ triples 1 2 32) ∷ [])
    ((triples 1 0 32 ++ triples 2 2 24) ∷ (triples 1 3 32 ++ triples 2 2 24) ∷ (triples 1 1 31 ++ triples 2 2 25)
    ∷ (triples 1 1 31 ++ (1 ∷ 1 ∷ 1 ∷ triples 2 2 24)) ∷ [])
    ((triples 1 1 32 ++ triples 2 2 23) ∷ (triples 1 1 32 ++ triples 2 2 25) ∷ [])
    ∷ edges 0x49 ((1 ∷ 1 ∷ replicate 128 0) ∷ (1 ∷ 32 ∷ replicate 128 0) ∷ (2 ∷ 0 ∷ 249 ∷ replicate 90 0) ∷ (2 ∷ 24 ∷ 13 ∷ replicate 90 0) ∷ [])
    ((1 ∷ 0 ∷ replicate 128 0) ∷ (1 ∷ 33 ∷ replicate 128 0) ∷ (2 ∷ 25 ∷ 0 ∷ replicate 90 0) ∷ (2 ∷ 0 ∷ 248 ∷ replicate 90 0) ∷ (2 ∷ 0 ∷ 14 ∷ replicate 90 0) ∷ (replicate 130 0) ∷ (3 ∷ replicate 92 0) ∷ [])
    ([] ∷ (1 ∷ 1 ∷ replicate 91 0) ∷ (2 ∷ 0 ∷ 0 ∷ replicate 127 0) ∷ (3 ∷ replicate 91 0) ∷ [])
    ∷ edges 0x4A ((replicate 33 0) ∷ []) [] ((replicate 32 0) ∷ (replicate 34 0) ∷ [])
    ∷ edges 0x4B ((replicate 42 0) ∷ []) [] ((replicate 41 0) ∷ (replicate 43 0) ∷ [])
    ∷ edges 0xEB ((replicate 16 0 ++ (3 ∷ replicate 9 0)) ∷ [])
    ((replicate 16 0 ++ (4 ∷ replicate 9 0)) ∷ [])
    ((replicate 25 0) ∷ (replicate 27 0) ∷ [])
    ∷ edges 0x52 ([] ∷ (1 ∷ 1 ∷ 255 ∷ replicate 4 0) ∷ (1 ∷ 32 ∷ 255 ∷ 90 ∷ 103 ∷ 1 ∷ 255 ∷ []) ∷ (2 ∷ 1 ∷ 249 ∷ replicate 4 0) ∷ (2 ∷ 24 ∷ 13 ∷ replicate 4 0) ∷ (4 ∷ 120 ∷ 255 ∷ replicate 4 0) ∷ (4 ∷ 139 ∷ 255 ∷ replicate 4 0) ∷ (4 ∷ 158 ∷ 255 ∷ replicate 4 0) ∷ times 75 (1 ∷ 1 ∷ 255 ∷ replicate 4 0) ∷ [])
    ((1 ∷ 0 ∷ 255 ∷ replicate 4 0) ∷ (1 ∷ 33 ∷ 255 ∷ replicate 4 0) ∷ (2 ∷ 0 ∷ 0 ∷ replicate 4 0) ∷ (2 ∷ 25 ∷ 0 ∷ replicate 4 0) ∷ (4 ∷ 119 ∷ 255 ∷ replicate 4 0) ∷ (4 ∷ 159 ∷ 255 ∷ replicate 4 0) ∷ (3 ∷ 1 ∷ 255 ∷ replicate 4 0) ∷ (1 ∷ 1 ∷ replicate 5 0) ∷ (2 ∷ 1 ∷ 248 ∷ replicate 4 0) ∷ (2 ∷ 1 ∷ 14 ∷ replicate 4 0) ∷ (4 ∷ 120 ∷ replicate 5 0) ∷ (1 ∷ 1 ∷ 255 ∷ 91 ∷ replicate 3 0) ∷ (1 ∷ 1 ∷ 255 ∷ 0 ∷ 104 ∷ 1 ∷ 0 ∷ []) ∷ (1 ∷ 1 ∷ 255 ∷ (replicate 4 0 ++ (1 ∷ 33 ∷ 255 ∷ replicate 4 0))) ∷ [])
    ((replicate 6 0) ∷ (1 ∷ 1 ∷ 255 ∷ replicate 5 0) ∷ times 76 (1 ∷ 1 ∷ 255 ∷ replicate 4 0) ∷ [])
    ∷ edges 0xF5 (replicate 27 255 ∷ replicate 57 0x10 ∷ replicate 987 0 ∷ []) []
    ([] ∷ replicate 26 0 ∷ replicate 28 0 ∷ replicate 56 0 ∷ replicate 58 0 ∷ replicate 986 0 ∷ replicate 988 0 ∷ replicate 1017 0 ∷ [])
    ∷ []

-- the answers, and what they should be
pub answers : Edges → List ℕ
answers e = map (content e.id) (e.good ++ (e.outside ++ e.length))

pub expected : Edges → List ℕ
expected e = replicate (length e.good) 0 ++ (replicate (length e.outside) 12 ++ replicate (length e.length) 11)

pub edges_hold : map answers kinds ≡ map expected kinds
unfolding edges triples times on kinds leap days_in date_exists answers expected number_of number_at signed all count table row_in allows chosen_49 length_ok content
edges_hold = refl

-- no other identifier is listed: the service codes, and neighbours of those that are
pub unlisted : map (λ i. content i []) (0x00 ∷ 0x03 ∷ 0x10 ∷ 0x1A ∷ 0x1C ∷ 0x22 ∷ 0x45 ∷ 0x4C ∷ 0xF6 ∷ 0xFF ∷ []) ≡ replicate 10 10
unfolding table row_in content
unlisted = refl
