-- What one slice call of the reader comes to in a part of a listing: `call-last` where it takes nothing, `call-more` where it takes something.
use mathlib.Core.Bool.{Bool, true, false, cond}
use mathlib.Core.List.{List, [], ◌∷◌, ◌++◌}
use mathlib.Core.Path.{◌≡◌, refl, sym, ap, ◌∙◌, subst, subst⁻¹}
use Prim.Native.Nat.{ℕ, ◌+◌, ◌-◌, ◌≤◌, ◌<◌}
use native.Mathlib.Omega.{arith}
use borrow.Author.Tests.{eqb-true, eqb-false, ltb-true, ltb-false}
use lib.Dec.{eqb, ltb}
use lib.ListN.{length, drop}
use Rattle.line.specs.Table.{Event as Said}
use Rattle.line.specs.Table.Event.{nothing, message, refusal}
use Rattle.line.specs.Record.{Rec, Possible, Asked, limit, walk}
use Rattle.line.proofs.SliceSteps.{walk_fits}
use Rattle.record.specs.declared.Reader.{Reader}
use Rattle.record.specs.declared.Fed.{Fed}
use Rattle.record.specs.View.{Parts, view, parts_of, shown, told, event_number}
use Rattle.record.specs.Posts.{FeedPost}
use Rattle.reader.proofs.Taking.{passed}
use Rattle.listing.specs.Text.{longest_event}
use Rattle.lister.specs.Listing.{line_of, Segment, segment}
use Rattle.lister.specs.Posts.{line_shown}
use Rattle.lister.proofs.SegmentLaws.{walk_mode, walk_possible, walk_fed, walk_some, bytes_ahead, segment_full, segment_limit, segment_walk}

-- the line of an answer, as the code writes it
abbrev pub line_from : Fed → List ℕ
line_from x = line_shown (x.reader.head.fed - 1) (told x.answer.event) x.answer.id x.answer.closed

line_shown_lem : (o : ℕ) (a : Said) → line_shown o (shown a).event (shown a).id (shown a).closed ≡ line_of o a
line_shown_lem o nothing = refl
line_shown_lem o (message id d n) = refl
line_shown_lem o (refusal v id n) = refl

-- the bytes that are offered
abbrev pub offered_in : ℕ → List ℕ → List ℕ
offered_in room s = cond (ltb room longest_event) [] s

-- a part of a listing that leaves the reader g: the refusal v, n bytes, the lines t
abbrev pub PartOut : Reader → List ℕ → ℕ → Reader → ℕ → ℕ → List ℕ → Type 0
PartOut r s room g v n t =
    Asked (view r) ⊥ (λ w. (g ≡ r) × (v ≡ w) × (n ≡ 0) × (t ≡ []))
    (let p = segment room (view r) s in (view g ≡ p.after) × (v ≡ p.refusal) × (n ≡ p.taken) × (t ≡ p.lines))

-- where a call took a byte there was something to take, and fed is past 0
module _ (r : Reader) (l : List ℕ) (x : Fed) (q : FeedPost r l x) (h : 0 < x.taken) where
  pub taken_within : x.taken ≤ length l
  taken_within = omega (arith, (passed r l x q h).2, walk_fits l (view r))

  pub fed_some : 0 < x.reader.head.fed
  fed_some =
      let w = passed r l x q h in
      omega (arith, ap (λ (v : Rec). v.fed) w.0, walk_fed l (view r), w.2)

pub taken_fits : (r : Reader) (l : List ℕ) (x : Fed) → FeedPost r l x → x.taken ≤ length l
taken_fits r l x q = by (eqb x.taken 0) refl
  where
    by : (t : Bool) → eqb x.taken 0 ≡ t → x.taken ≤ length l
    by true e = omega (arith, eqb-true x.taken 0 e)
    by false e = let n = eqb-false x.taken 0 e in taken_within r l x q (omega arith)

-- a call that takes nothing and leaves what p says
abbrev Ends : Fed → Segment → Type 0
Ends x p = (view x.reader ≡ p.after) × (event_number (told x.answer.event) ≡ p.refusal) × (0 ≡ p.taken) × ([] ≡ p.lines)

-- the last call takes nothing: all is listed, there is no room, or it is refused
pub call_last : (r : Reader) (s : List ℕ) (room : ℕ) (x : Fed) → FeedPost r (offered_in room s) x → x.taken ≡ 0
    → PartOut r s room x.reader (event_number (told x.answer.event)) 0 []
call_last r s room x q z =
    record {
      one = λ m. let w = q.asked.one m in (w.0, ap (λ (p : Parts). event_number p.event) w.1, refl, refl);
      two = λ m n. let w = q.asked.two m n in (w.0, ap (λ (p : Parts). event_number p.event) w.1, refl, refl);
      three = λ m p o f. absurd o;
      rest = λ m p o. by (ltb room longest_event) refl s q m p;
    }
  where
    -- nothing is offered
    none : FeedPost r [] x → r.head.mode ≤ 1 → Possible (view r) → Ends x (record { after = view r; refusal = 0; taken = 0; lines = [] })
    none q m p =
        let w = q.asked.rest m p (λ o. absurd (omega arith)) in
        (w.0, ap (λ (p : Parts). event_number p.event) w.1, refl, refl)

    full : (b : ℕ) (bs : List ℕ) (t : Bool) → ltb r.head.fed limit ≡ t → ltb room longest_event ≡ false → FeedPost r (b ∷ bs) x
        → r.head.mode ≤ 1 → Possible (view r) → Ends x (segment room (view r) (b ∷ bs))
    full b bs true e k q m p =
        let w = q.asked.rest m p (λ o. ltb-true r.head.fed limit e) in
        absurd (omega (arith, w.2, walk_some b bs (view r) e))
    full b bs false e k q m p =
        let w = q.asked.three m p (omega arith) (ltb-false r.head.fed limit e) in
        subst⁻¹ (Ends x) (segment_limit room (view r) b bs k e) (ap view w.0, ap (λ (p : Parts). event_number p.event) w.1, refl, refl)

    by : (t : Bool) → ltb room longest_event ≡ t → (s : List ℕ) → FeedPost r (cond t [] s) x → r.head.mode ≤ 1 → Possible (view r)
        → Ends x (segment room (view r) s)
    by true k s q m p = subst⁻¹ (Ends x) (segment_full room (view r) s k) (none q m p)
    by false k [] q m p = none q m p
    by false k (b ∷ bs) q m p = full b bs (ltb r.head.fed limit) refl k q m p

-- where something was taken there was room
pub room_left : (r : Reader) (s : List ℕ) (room : ℕ) (x : Fed) → FeedPost r (offered_in room s) x → 0 < x.taken → ltb room longest_event ≡ false
room_left r s room x q h = by (ltb room longest_event) refl q
  where
    by : (t : Bool) → ltb room longest_event ≡ t → FeedPost r (cond t [] s) x → ltb room longest_event ≡ false
    by true k q = absurd (omega (arith, taken_within r [] x q h))
    by false k q = k

-- a call that takes something, and then what is right from where it stopped
pub call_more : (r : Reader) (s : List ℕ) (room : ℕ) (x : Fed) → FeedPost r (offered_in room s) x → 0 < x.taken → (g : Reader) (v n : ℕ) (t : List ℕ)
    → PartOut x.reader (drop x.taken s) (room - length (line_from x)) g v n t → PartOut r s room g v (x.taken + n) (line_from x ++ t)
call_more r s room x q h g v n t o =
    record {
      one = λ m. absurd (omega (arith, (q.asked.one m).2));
      two = λ m f. absurd (omega (arith, (q.asked.two m f).2));
      three = λ m p z f. absurd z;
      rest = λ m p z.
          let u = o.rest (rw (mode_kept) m) (kept p) (λ y. absurd y) in (
            u.0 ∙ ap (λ (y : Segment). y.after) (sym e),
            u.1 ∙ ap (λ (y : Segment). y.refusal) (sym e),
            ap (λ (k : ℕ). x.taken + k) u.2 ∙ ap (λ (y : Segment). y.taken) (sym e),
            ap (λ (k : List ℕ). line_from x ++ k) u.3 ∙ ap (λ (y : Segment). y.lines) (sym e),
          );
    }
  where
    k : ltb room longest_event ≡ false
    k = room_left r s room x q h

    f : FeedPost r s x
    f = subst (λ (c : Bool). FeedPost r (cond c [] s) x) k q

    w : (view x.reader ≡ (walk (view r) s).after)
        × (parts_of x.answer ≡ shown (walk (view r) s).answer)
        × (x.taken ≡ (walk (view r) s).taken)
    w = passed r s x f h

    mode_kept : x.reader.head.mode ≡ r.head.mode
    mode_kept = ap (λ (y : Rec). y.mode) w.0 ∙ walk_mode s (view r)

    kept : Possible (view r) → Possible (view x.reader)
    kept p = subst⁻¹ Possible w.0 (walk_possible s (view r) p)

    line : line_from x ≡ line_of ((walk (view r) s).after.fed - 1) (walk (view r) s).answer
    line =
        (λ i. line_shown ((w.0 i).fed - 1) (w.1 i).event (w.1 i).id (w.1 i).closed)
        ∙ line_shown_lem ((walk (view r) s).after.fed - 1) (walk (view r) s).answer

    e : segment room (view r) s
        ≡ bytes_ahead x.taken (line_from x) (segment (room - length (line_from x)) (view x.reader) (drop x.taken s))
    e =
        segment_walk s room (view r) k (omega (arith, w.2))
        ∙ sym (λ i. bytes_ahead (w.2 i) (line i) (segment (room - length (line i)) (w.0 i) (drop (w.2 i) s)))
