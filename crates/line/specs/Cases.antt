-- Document 01, "Proved cases": bytes, and what the table makes of them. The cases beside the paper's ten follow them.
use Rattle.std.specs.Prelude.{List, [], ◌∷◌, ◌++◌, ◌≡◌, ℕ, suc, replicate}
use Rattle.std.proofs.Math.Option.{none}
use Rattle.line.specs.Frame.{Mode}
use Rattle.line.specs.Table.{Event, by_event, pending, after, events, skipped, total, accepts, refuses}
use Rattle.line.specs.Table.State.{W}
use Rattle.line.specs.Table.Event.{nothing, message, refusal}
use Rattle.line.specs.Record.{Rec, Place, StepPost, FeedPost, fresh}
use Rattle.line.specs.Record.Fresh.{refused}
use Rattle.line.specs.Record.Place.{at, unknown}

-- an event, and the number of the byte (from 0) that raised it
pub record At : Type 0 where
  pub byte : ℕ
  pub event : Event

-- the events but for "nothing yet"; accepted, refused, outside, pending
pub record Seen : Type 0 where
  pub events : List At
  pub counts : List ℕ

abbrev pub raised : ℕ → Event → At
raised n e = record { byte = n; event = e }

abbrev pub raised_from : ℕ → List Event → List At
raised_from n [] = []
raised_from n (e ∷ es) = by_event e [] (λ id d k. raised n e ∷ []) (λ v id k. raised n e ∷ []) ++ raised_from (suc n) es

abbrev pub seen : Mode → List ℕ → Seen
seen m bs =
    let es = events m W bs in
    record {
      events = raised_from 0 es;
      counts = total accepts es ∷ total refuses es ∷ skipped m W bs ∷ pending (after m W bs) ∷ [];
    }

pub record Case : Type 0 where
  pub mode : ℕ
  pub bytes : List ℕ
  pub expected : Seen

abbrev pub case : ℕ → List ℕ → List At → ℕ → ℕ → ℕ → ℕ → Case
case m bs es a r o p = record { mode = m; bytes = bs; expected = record { events = es; counts = a ∷ r ∷ o ∷ p ∷ [] } }

-- 26h and 54h in mode 1; 26h up to its checksum
abbrev pub f26 : List ℕ
f26 = 0x10 ∷ 0x26 ∷ 0x10 ∷ 0xFF ∷ 0xA4 ∷ 0x44 ∷ 0x10 ∷ 0x03 ∷ []

abbrev pub f54 : List ℕ
f54 = 0x10 ∷ 0x54 ∷ 0x10 ∷ 0xFF ∷ 0x71 ∷ 0x1A ∷ 0x10 ∷ 0x03 ∷ []

abbrev pub s26 : List ℕ
s26 = 0x10 ∷ 0x26 ∷ 0x10 ∷ 0xFF ∷ 0xA4 ∷ 0x44 ∷ []

unfoldable pub cases : List Case
cases =
    -- 1
    case 0 (0x10 ∷ 0x26 ∷ 0x10 ∷ 0x03 ∷ []) (raised 3 (message 0x26 [] 4) ∷ []) 4 0 0 0
    -- 2: the sum right, wrong, missing
    ∷ case 1 f26 (raised 7 (message 0x26 [] 8) ∷ []) 8 0 0 0
    ∷ case 1 (0x10 ∷ 0x26 ∷ 0x10 ∷ 0xFF ∷ 0xA5 ∷ 0x44 ∷ 0x10 ∷ 0x03 ∷ []) (raised 7 (refusal 9 0x26 8) ∷ []) 0 8 0 0
    ∷ case 1 (0x10 ∷ 0x26 ∷ 0x10 ∷ 0x03 ∷ []) (raised 3 (refusal 6 0x26 4) ∷ []) 0 4 0 0
    -- 3
    ∷ case 0 (0x10 ∷ 0x21 ∷ 0x10 ∷ 0x10 ∷ 0x10 ∷ 0x03 ∷ []) (raised 5 (message 0x21 (0x10 ∷ []) 6) ∷ []) 6 0 0 0
    -- 4: the sum right, the identifier not listed
    ∷ case 1 (0x10 ∷ 0x01 ∷ 0x10 ∷ 0xFF ∷ 0x21 ∷ 0x10 ∷ 0x10 ∷ 0x03 ∷ []) (raised 7 (refusal 10 0x01 8) ∷ []) 0 8 0 0
    -- 5
    ∷ case 0 (0x10 ∷ 0x26 ∷ 0x10 ∷ 0x54 ∷ 0x10 ∷ 0x03 ∷ []) (raised 3 (refusal 5 0x26 2) ∷ raised 5 (message 0x54 [] 4) ∷ []) 4 2 0 0
    -- 6
    ∷ case 0 (0x10 ∷ 0x10 ∷ 0x26 ∷ 0x10 ∷ 0x03 ∷ []) [] 0 0 5 0
    -- 7
    ∷ case 0 (0x10 ∷ 0x23 ∷ 0xF3 ∷ 0xC5 ∷ 0x10 ∷ 0x03 ∷ []) (raised 5 (message 0x23 (0xF3 ∷ 0xC5 ∷ []) 6) ∷ []) 6 0 0 0
    ∷ case 0 (0x10 ∷ 0x23 ∷ 0xF2 ∷ 0x00 ∷ 0x10 ∷ 0x03 ∷ []) (raised 5 (refusal 12 0x23 6) ∷ []) 0 6 0 0
    -- 8
    ∷ case 0 (0x10 ∷ 0x43 ∷ 0x02 ∷ 0xC0 ∷ 0 ∷ 0 ∷ 0 ∷ 0 ∷ 0x10 ∷ 0x03 ∷ [])
    (raised 9 (message 0x43 (0x02 ∷ 0xC0 ∷ 0 ∷ 0 ∷ 0 ∷ 0 ∷ []) 10) ∷ []) 10 0 0 0
    ∷ case 0 (0x10 ∷ 0x43 ∷ 0x02 ∷ 0x80 ∷ 0 ∷ 0 ∷ 0 ∷ 0 ∷ 0x10 ∷ 0x03 ∷ []) (raised 9 (refusal 12 0x43 10) ∷ []) 0 10 0 0
    -- 9
    ∷ case 0 (0x10 ∷ 0x20 ∷ 0x02 ∷ 0x18 ∷ 0x10 ∷ 0x03 ∷ []) (raised 5 (message 0x20 (0x02 ∷ 0x18 ∷ []) 6) ∷ []) 6 0 0 0
    ∷ case 0 (0x10 ∷ 0x20 ∷ 0x02 ∷ 0x19 ∷ 0x10 ∷ 0x03 ∷ []) (raised 5 (refusal 12 0x20 6) ∷ []) 0 6 0 0
    -- 10
    ∷ case 1 (0x10 ∷ 0x88 ∷ 0x10 ∷ 0xFF ∷ f26 ++ f26) (raised 7 (refusal 8 0x88 8) ∷ raised 19 (message 0x26 [] 8) ∷ []) 8 8 4 0
    -- the sum is over the stuffed data: over the data it would be E6 27
    ∷ case 1 (0x10 ∷ 0x21 ∷ 0x10 ∷ 0x10 ∷ 0x10 ∷ 0xFF ∷ 0xB4 ∷ 0xA0 ∷ 0x10 ∷ 0x03 ∷ [])
    (raised 9 (message 0x21 (0x10 ∷ []) 10) ∷ []) 10 0 0 0
    -- refusal 4: a data byte after 1,024; refusal 7: a sum in mode 0; refusal 11: 26h with a byte
    ∷ case 0 (0x10 ∷ 0x21 ∷ replicate 1025 0) (raised 1026 (refusal 4 0x21 1027) ∷ []) 0 1027 0 0
    ∷ case 0 (0x10 ∷ 0x26 ∷ 0x10 ∷ 0xFF ∷ []) (raised 3 (refusal 7 0x26 4) ∷ []) 0 4 0 0
    ∷ case 0 (0x10 ∷ 0x26 ∷ 0x00 ∷ 0x10 ∷ 0x03 ∷ []) (raised 4 (refusal 11 0x26 5) ∷ []) 0 5 0 0
    -- W and WD: any other byte is outside, and so are DLE and a service code
    ∷ case 0 (0x03 ∷ 0xFF ∷ 0x00 ∷ 0x10 ∷ 0x03 ∷ 0x10 ∷ 0xFF ∷ []) [] 0 0 7 0
    -- F: 03h and FFh are data
    ∷ case 0 (0x10 ∷ 0x2A ∷ 0x03 ∷ 0x10 ∷ 0x03 ∷ 0x10 ∷ 0x21 ∷ 0xFF ∷ 0x10 ∷ 0x03 ∷ [])
    (raised 4 (message 0x2A (0x03 ∷ []) 5) ∷ raised 9 (message 0x21 (0xFF ∷ []) 5) ∷ []) 10 0 0 0
    -- F with 1,024 bytes, a doubled 10h; with 1,023 it still joins
    ∷ case 0 (0x10 ∷ 0x21 ∷ replicate 1024 0 ++ (0x10 ∷ 0x10 ∷ [])) (raised 1027 (refusal 4 0x21 1028) ∷ []) 0 1028 0 0
    ∷ case 0 (0x10 ∷ 0x21 ∷ replicate 1023 0 ++ (0x10 ∷ 0x10 ∷ 0x10 ∷ 0x03 ∷ [])) (raised 1028 (refusal 11 0x21 1029) ∷ []) 0 1029 0 0
    -- FD with an identifier, in mode 1
    ∷ case 1 (0x10 ∷ 0x26 ∷ f54) (raised 3 (refusal 5 0x26 2) ∷ raised 9 (message 0x54 [] 8) ∷ []) 8 2 0 0
    -- C0 and C1: any byte is stored, the service codes too
    ∷ case 1 (0x10 ∷ 0x26 ∷ 0x10 ∷ 0xFF ∷ 0x10 ∷ 0x03 ∷ 0x10 ∷ 0x03 ∷ []) (raised 7 (refusal 9 0x26 8) ∷ []) 0 8 0 0
    ∷ case 1 (0x10 ∷ 0x26 ∷ 0x10 ∷ 0xFF ∷ 0x03 ∷ 0x10 ∷ 0x10 ∷ 0x03 ∷ []) (raised 7 (refusal 9 0x26 8) ∷ []) 0 8 0 0
    ∷ case 1 (0x10 ∷ 0x26 ∷ 0x10 ∷ 0xFF ∷ 0xFF ∷ 0xFF ∷ 0x10 ∷ 0x03 ∷ []) (raised 7 (refusal 9 0x26 8) ∷ []) 0 8 0 0
    -- E with any other byte
    ∷ case 1 (s26 ++ (0x00 ∷ [])) (raised 6 (refusal 8 0x26 7) ∷ []) 0 7 0 0
    ∷ case 1 (s26 ++ (0x03 ∷ [])) (raised 6 (refusal 8 0x26 7) ∷ []) 0 7 0 0
    ∷ case 1 (s26 ++ (0xFF ∷ [])) (raised 6 (refusal 8 0x26 7) ∷ []) 0 7 0 0
    -- ED with 10h, with FFh, with an identifier
    ∷ case 1 (s26 ++ (0x10 ∷ 0x10 ∷ [])) (raised 7 (refusal 8 0x26 8) ∷ []) 0 8 0 0
    ∷ case 1 (s26 ++ (0x10 ∷ 0xFF ∷ [])) (raised 7 (refusal 8 0x26 8) ∷ []) 0 8 0 0
    ∷ case 1 (s26 ++ f54) (raised 7 (refusal 8 0x26 6) ∷ raised 13 (message 0x54 [] 8) ∷ []) 8 6 0 0
    -- the paper's example of listoff
    ∷ case 0 (0x10 ∷ 0x26 ∷ 0x10 ∷ 0x03 ∷ 0xAA ∷ 0x10 ∷ 0x54 ∷ 0x10 ∷ 0x03 ∷ [])
    (raised 3 (message 0x26 [] 4) ∷ raised 8 (message 0x54 [] 4) ∷ []) 8 0 1 0
    ∷ []

-- Questions 1 to 3: a record of this mode and place that has been fed f bytes, all outside
abbrev pub record_at : ℕ → Place → ℕ → Rec
record_at m p f = record { mode = m; place = p; fed = f; accepted = 0; refused = 0; outside = f; pending = 0; latest = λ k. none }

-- any step on the record, and any slice call that offers a byte, has the number v as its answer, with nothing beside it, and leaves it
pub record RefusedBy (v : ℕ) (r : Rec) : Type 0 where
  pub step : (b : ℕ) (r' : Rec) (a : Event) → StepPost r b r' a → (r' ≡ r) × (a ≡ refusal v 0 0)
  pub feed : (b : ℕ) (bs : List ℕ) (r' : Rec) (a : Event) (n : ℕ) → FeedPost r (b ∷ bs) r' a n
      → (r' ≡ r) × (a ≡ refusal v 0 0) × (n ≡ 0)

-- of a record that fails several the first decides; the last byte that can be counted; an empty slice is not asked 3
pub record QuestionCases : Type 0 where
  pub no_reader : fresh 2 ≡ refused 1
  pub first : RefusedBy 1 (record_at 2 (unknown 8) 18446744073709551615)
  pub second : RefusedBy 2 (record_at 0 (unknown 8) 18446744073709551615)
  pub third : RefusedBy 3 (record_at 0 (at W) 18446744073709551615)
  pub empty : (r : Rec) (a : Event) (n : ℕ) → FeedPost (record_at 0 (at W) 18446744073709551615) [] r a n → (a ≡ nothing) × (n ≡ 0)
  pub last : (r : Rec) (a : Event) (n : ℕ) → FeedPost (record_at 0 (at W) 18446744073709551614) (0 ∷ 0 ∷ []) r a n
      → (r ≡ record_at 0 (at W) 18446744073709551615) × (a ≡ nothing) × (n ≡ 1)
