-- Laws of segments of a listing: one slice call of the reader in front of the rest, and what a segment leaves of the whole listing.
use mathlib.Core.Bool.{Bool, true, false, cond}
use mathlib.Core.List.{List, [], ◌∷◌, ◌++◌, append_assoc, append-nil}
use mathlib.Core.Path.{◌≡◌, refl, sym, ap, ◌∙◌, subst}
use Prim.Native.Nat.{ℕ, zero, suc, ◌+◌, ◌-◌, ◌<◌}
use native.Mathlib.Omega.{arith}
use lib.Dec.{ltb}
use lib.ListN.{length, drop}
use Rattle.line.specs.Table.{Event}
use Rattle.line.specs.Table.Event.{nothing, message, refusal}
use Rattle.line.specs.Record.{Rec, Possible, Result, limit, event_of, stepped, or_stop, walk}
use Rattle.line.specs.Record as Record
use Rattle.line.proofs.Mirror.{keeps_possible}
use Rattle.listing.specs.Text.{total_of, longest_event}
use Rattle.lister.specs.Listing.{line_of, text, Segment, ending, byte_ahead, segment}

-- one turn of a walk, by whether there is room for b and by its event; x is what the other bytes come to
abbrev turned : Rec → ℕ → Result → Bool → Event → Result
turned r b x t e =
    cond t (or_stop e (Record.one_more x) (record { after = stepped r b; answer = e; taken = 1 }))
    (record { after = r; answer = nothing; taken = 0 })

-- what holds where a walk stops, after an event, and of one byte more in front, holds of every walk
module _ (P : Rec → List ℕ → Result → Type 0)
    (none : (r : Rec) → P r [] (record { after = r; answer = nothing; taken = 0 }))
    (limited : (r : Rec) (b : ℕ) (bs : List ℕ) → ltb r.fed limit ≡ false → P r (b ∷ bs) (record { after = r; answer = nothing; taken = 0 }))
    (quiet : (r : Rec) (b : ℕ) (bs : List ℕ) (x : Result) → ltb r.fed limit ≡ true → event_of r b ≡ nothing → P (stepped r b) bs x
    → P r (b ∷ bs) (Record.one_more x))
    (event : (r : Rec) (b : ℕ) (bs : List ℕ) (e : Event) → ltb r.fed limit ≡ true → event_of r b ≡ e
    → P r (b ∷ bs) (record { after = stepped r b; answer = e; taken = 1 })) where
  pub walk_by : (l : List ℕ) (r : Rec) → P r l (walk r l)
  walk_by [] r = none r
  walk_by (b ∷ bs) r = by (ltb r.fed limit) (event_of r b) refl refl (walk_by bs (stepped r b))
    where
      x : Result
      x = walk (stepped r b) bs

      by : (t : Bool) (e : Event) → ltb r.fed limit ≡ t → event_of r b ≡ e → P (stepped r b) bs x → P r (b ∷ bs) (turned r b x t e)
      by false e k q h = limited r b bs k
      by true nothing k q h = quiet r b bs x k q h
      by true (message i d n) k q h = event r b bs (message i d n) k q
      by true (refusal v i n) k q h = event r b bs (refusal v i n) k q

-- what a walk keeps
pub walk_mode : (l : List ℕ) (r : Rec) → (walk r l).after.mode ≡ r.mode
walk_mode =
    walk_by (λ r l x. x.after.mode ≡ r.mode) (λ r. refl) (λ r b bs k. refl) (λ r b bs x k q h. h) (λ r b bs e k q. refl)

pub walk_possible : (l : List ℕ) (r : Rec) → Possible r → Possible (walk r l).after
walk_possible =
    walk_by (λ r l x. Possible r → Possible x.after) (λ r p. p) (λ r b bs k p. p) (λ r b bs x k q h p. h (keeps_possible r b p))
    (λ r b bs e k q p. keeps_possible r b p)

pub walk_fed : (l : List ℕ) (r : Rec) → (walk r l).after.fed ≡ r.fed + (walk r l).taken
walk_fed =
    walk_by (λ r l x. x.after.fed ≡ r.fed + x.taken) (λ r. omega arith) (λ r b bs k. omega arith)
    (λ r b bs x k q h. omega (arith, h)) (λ r b bs e k q. refl)

-- a walk that takes nothing leaves the record, and has no event
stays : (l : List ℕ) (r : Rec) → (walk r l).taken ≡ 0 → ((walk r l).after ≡ r) × ((walk r l).answer ≡ nothing)
stays =
    walk_by (λ r l x. x.taken ≡ 0 → (x.after ≡ r) × (x.answer ≡ nothing)) (λ r h. (refl, refl)) (λ r b bs k h. (refl, refl))
    (λ r b bs x k q i h. absurd (omega arith)) (λ r b bs e k q h. absurd (omega arith))

-- a byte that can be counted is taken
pub walk_some : (b : ℕ) (bs : List ℕ) (r : Rec) → ltb r.fed limit ≡ true → 0 < (walk r (b ∷ bs)).taken
walk_some b bs r t =
    walk_by (λ r l x. 0 < length l → ltb r.fed limit ≡ true → 0 < x.taken) (λ r h t. absurd (omega arith))
    (λ r b bs k h t. absurd (let g : ◌≡◌ {A = ℕ} 0 1 = cc in omega arith)) (λ r b bs x k q i h t. omega arith)
    (λ r b bs e k q h t. omega arith) (b ∷ bs) r (omega arith) t

-- n bytes and their line in front of a segment
abbrev pub bytes_ahead : ℕ → List ℕ → Segment → Segment
bytes_ahead n l p = record { after = p.after; refusal = p.refusal; taken = n + p.taken; lines = l ++ p.lines }

-- where there is no room, and where the first byte can't be counted
pub segment_full : (room : ℕ) (r : Rec) (l : List ℕ) → ltb room longest_event ≡ true → segment room r l ≡ ending 0 r
segment_full room r [] q = refl
segment_full room r (b ∷ bs) q = rw q

pub segment_limit : (room : ℕ) (r : Rec) (b : ℕ) (bs : List ℕ) → ltb room longest_event ≡ false → ltb r.fed limit ≡ false
    → segment room r (b ∷ bs) ≡ ending 3 r
segment_limit room r b bs q h = rw (q, h)

-- one byte without an event in front of a slice call
quiet : (n : ℕ) (l : List ℕ) (p : Segment) → byte_ahead [] (bytes_ahead n l p) ≡ bytes_ahead (suc n) l p
quiet n l p =
    let e : suc (n + p.taken) ≡ suc n + p.taken = omega arith in
    λ i. record { after = p.after; refusal = p.refusal; taken = e i; lines = l ++ p.lines }

single : (l : List ℕ) (p : Segment) → byte_ahead l p ≡ bytes_ahead 1 l p
single l p =
    let e : suc p.taken ≡ 1 + p.taken = omega arith in
    λ i. record { after = p.after; refusal = p.refusal; taken = e i; lines = l ++ p.lines }

-- what a walk leaves of a segment
abbrev pub rest : ℕ → Result → List ℕ → Segment
rest room w l =
    let s = line_of (w.after.fed - 1) w.answer in
    bytes_ahead w.taken s (segment (room - length s) w.after (drop w.taken l))

-- a slice call that takes something: its line, and then the segment from where it stopped
pub segment_walk : (l : List ℕ) (room : ℕ) (r : Rec) → ltb room longest_event ≡ false → 0 < (walk r l).taken → segment room r l ≡ rest room (walk r l) l
segment_walk [] room r q h = absurd (omega arith)
segment_walk (b ∷ bs) room r q h =
    rw q (by (ltb r.fed limit) (event_of r b) h (λ k. segment_walk bs room (stepped r b) q k))
  where
    x : Result
    x = walk (stepped r b) bs

    none : room - 0 ≡ room
    none = omega arith

    raised : (e : Event) → byte_ahead (line_of r.fed e) (segment (room - length (line_of r.fed e)) (stepped r b) bs)
        ≡ rest room (record { after = stepped r b; answer = e; taken = 1 }) (b ∷ bs)
    raised e =
        let o : r.fed ≡ r.fed + 1 - 1 = omega arith in
        single (line_of r.fed e) (segment (room - length (line_of r.fed e)) (stepped r b) bs)
        ∙ (λ i. bytes_ahead 1 (line_of (o i) e) (segment (room - length (line_of (o i) e)) (stepped r b) bs))

    silent : (n : ℕ) → x.taken ≡ n → (0 < x.taken → segment room (stepped r b) bs ≡ rest room x bs)
        → byte_ahead [] (segment (room - 0) (stepped r b) bs) ≡ rest room (Record.one_more x) (b ∷ bs)
    silent zero e ih =
        let w = stays bs (stepped r b) e in
        single [] (segment (room - 0) (stepped r b) bs)
        ∙ sym (λ i. bytes_ahead (suc (e i)) (line_of ((w.0 i).fed - 1) (w.1 i)) (segment (room - length (line_of ((w.0 i).fed - 1) (w.1 i))) (w.0 i) (drop (e i) bs)))
    silent (suc n) e ih =
        ap (λ (k : ℕ). byte_ahead [] (segment k (stepped r b) bs)) none
        ∙ ap (byte_ahead []) (ih (omega arith))
        ∙ quiet x.taken (line_of (x.after.fed - 1) x.answer) _

    by : (t : Bool) (e : Event) → 0 < (turned r b x t e).taken → (0 < x.taken → segment room (stepped r b) bs ≡ rest room x bs)
        → cond t (byte_ahead (line_of r.fed e) (segment (room - length (line_of r.fed e)) (stepped r b) bs)) (ending 3 r)
        ≡ rest room (turned r b x t e) (b ∷ bs)
    by false e h ih = absurd (omega arith)
    by true nothing h ih = silent x.taken refl ih
    by true (message i d n) h ih = raised (message i d n)
    by true (refusal v i n) h ih = raised (refusal v i n)

-- what holds where a segment ends, and of one byte more in front, holds of every segment
module _ (P : ℕ → Rec → List ℕ → Segment → Type 0)
    (none : (room : ℕ) (r : Rec) → P room r [] (ending 0 r))
    (full : (room : ℕ) (r : Rec) (l : List ℕ) → ltb room longest_event ≡ true → P room r l (ending 0 r))
    (limited : (room : ℕ) (r : Rec) (b : ℕ) (bs : List ℕ) → ltb r.fed limit ≡ false → P room r (b ∷ bs) (ending 3 r))
    (more : (room : ℕ) (r : Rec) (b : ℕ) (bs : List ℕ) (p : Segment) → ltb r.fed limit ≡ true
    → P (room - length (line_of r.fed (event_of r b))) (stepped r b) bs p → P room r (b ∷ bs) (byte_ahead (line_of r.fed (event_of r b)) p)) where
  pub segment_by : (l : List ℕ) (room : ℕ) (r : Rec) → P room r l (segment room r l)
  segment_by [] room r = none room r
  segment_by (b ∷ bs) room r =
      by (ltb room longest_event) (ltb r.fed limit) refl refl (segment_by bs (room - length s) (stepped r b))
    where
      s : List ℕ
      s = line_of r.fed (event_of r b)

      p : Segment
      p = segment (room - length s) (stepped r b) bs

      by : (u t : Bool) → ltb room longest_event ≡ u → ltb r.fed limit ≡ t → P (room - length s) (stepped r b) bs p
          → P room r (b ∷ bs) (cond u (ending 0 r) (cond t (byte_ahead s p) (ending 3 r)))
      by true t q k h = full room r (b ∷ bs) q
      by false true q k h = more room r b bs p k h
      by false false q k h = limited room r b bs k

-- what a segment leaves of the listing; more bytes, m, may follow those that are offered
pub text_segment_more : (l m : List ℕ) (room : ℕ) (r : Rec)
    → text r (l ++ m) ≡ (segment room r l).lines ++ text (segment room r l).after (drop (segment room r l).taken (l ++ m))
text_segment_more l m =
    segment_by (λ room r k p. text r (k ++ m) ≡ p.lines ++ text p.after (drop p.taken (k ++ m))) (λ room r. refl) (λ room r k q. refl)
    (λ room r b bs k. refl)
    (λ room r b bs p k ih.
    let s = line_of r.fed (event_of r b) in
    ap (λ (c : Bool). cond c (s ++ text (stepped r b) (bs ++ m)) (total_of r)) k
    ∙ ap (λ (z : List ℕ). s ++ z) ih
    ∙ sym (append_assoc s p.lines (text p.after (drop p.taken (bs ++ m)))))
    l

pub text_segment : (l : List ℕ) (room : ℕ) (r : Rec)
    → text r l ≡ (segment room r l).lines ++ text (segment room r l).after (drop (segment room r l).taken l)
text_segment l room r =
    subst (λ (z : List ℕ). text r z ≡ (segment room r l).lines ++ text (segment room r l).after (drop (segment room r l).taken z)) (append-nil l)
    (text_segment_more l [] room r)

-- what a segment keeps
pub segment_mode : (l : List ℕ) (room : ℕ) (r : Rec) → (segment room r l).after.mode ≡ r.mode
segment_mode =
    segment_by (λ room r l p. p.after.mode ≡ r.mode) (λ room r. refl) (λ room r l q. refl) (λ room r b bs k. refl) (λ room r b bs p k h. h)

pub segment_possible : (l : List ℕ) (room : ℕ) (r : Rec) → Possible r → Possible (segment room r l).after
segment_possible =
    segment_by (λ room r l p. Possible r → Possible p.after) (λ room r h. h) (λ room r l q h. h) (λ room r b bs k h. h)
    (λ room r b bs p k i h. i (keeps_possible r b h))

-- a segment that takes nothing, though there is room, stands before the total
pub segment_end : (l : List ℕ) (room : ℕ) (r : Rec) → ltb room longest_event ≡ false → (segment room r l).taken ≡ 0
    → ((segment room r l).after ≡ r) × (text r l ≡ total_of r)
segment_end =
    segment_by (λ room r l p. ltb room longest_event ≡ false → p.taken ≡ 0 → (p.after ≡ r) × (text r l ≡ total_of r)) (λ room r q h. (refl, refl))
    (λ room r l t q h. absurd (let g : ◌≡◌ {A = ℕ} 0 1 = cc in omega arith))
    (λ room r b bs k q h. (refl, ap (λ (c : Bool). cond c (line_of r.fed (event_of r b) ++ text (stepped r b) bs) (total_of r)) k))
    (λ room r b bs p k i q h. absurd (omega arith))
