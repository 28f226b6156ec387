-- The turns of a part of a listing: what is right from where a turn stands is right from the start, after what came before.
use mathlib.Core.Bool.{Bool, true, false, cond}
use mathlib.Core.List.{List, [], ◌++◌, append_assoc, append-nil}
use mathlib.Core.Path.{◌≡◌, refl, sym, ap, ◌∙◌, subst}
use Prim.Native.Nat.{ℕ, ◌+◌, ◌-◌, ◌≤◌, ◌<◌}
use native.Mathlib.Nat.{add-zero, add_assoc, zero-add}
use native.Mathlib.Omega.{arith}
use borrow.Author.Tests.{ltb-false}
use borrow.Rule.Slice.PartMut.{put_mid}
use lib.Dec.{ltb}
use lib.ListN.{length, take, drop, length-append, length-drop}
use lib.Seq.{take_at, take_all, drop-drop, length-take-le, drop-length}
use Rattle.octets.specs.Placing.{placed}
use Rattle.octets.proofs.PlacingLaws.{placed_fits, placed_start, placed_nil, length_placed}
use Rattle.record.specs.declared.Reader.{Reader}
use Rattle.record.specs.declared.Fed.{Fed}
use Rattle.record.specs.Posts.{FeedPost}
use Rattle.listing.proofs.LineLaws.{placed_after}
use Rattle.listing.specs.Text.{longest_event}
use Rattle.record.specs.View.{told, event_number}
use Rattle.std.specs.Prelude.{Option}
use Rattle.refusals.specs.declared.Refusal.{Refusal}
use Rattle.refusals.specs.Numbers.{why}
use Rattle.lister.specs.Posts.{PartPost}
use Rattle.lister.proofs.FeedLaws.{line_from, offered_in, PartOut, call_last, call_more, taken_fits, fed_some, room_left}

-- at bytes were taken of s by the reader r₀, which is r now; to bytes were written into b₀, which is b now
pub record Turn (r₀ : Reader) (s b₀ : List ℕ) (r : Reader) (b : List ℕ) (at to : ℕ) : Type 0 where
  pub within : at ≤ length s
  pub room : to ≤ length b
  pub same : length b ≡ length b₀
  pub written : b ≡ placed b₀ 0 (take to b)
  pub right : (g : Reader) (v n : ℕ) (t : List ℕ) → PartOut r (drop at s) (length b - to) g v n t
      → PartOut r₀ s (length b₀) g v (at + n) (take to b ++ t)

pub turn_none : (r : Reader) (s b : List ℕ) → Turn r s b r b 0 0
turn_none r s b =
    let e : length b - 0 ≡ length b = omega arith in
    record {
      within = omega arith;
      room = omega arith;
      same = refl;
      written = sym (placed_nil b 0);
      right = λ g v n t o. rw zero-add (subst (λ (k : ℕ). PartOut r s k g v n t) e o);
    }

-- the bytes that a turn offers
pub part_offered : (s : List ℕ) (at room end : ℕ) → end ≡ cond (ltb room longest_event) at (length s)
    → take (end - at) (drop at s) ≡ offered_in room (drop at s)
part_offered s at room end e = ap (λ (k : ℕ). take (k - at) (drop at s)) e ∙ by (ltb room longest_event)
  where
    by : (t : Bool) → take (cond t at (length s) - at) (drop at s) ≡ cond t [] (drop at s)
    by true = let z : at - at ≡ 0 = omega arith in ap (λ (k : ℕ). take k (drop at s)) z
    by false = take_all (length s - at) (drop at s) (rw length-drop (omega arith))

pub offered_within : (room : ℕ) (s : List ℕ) → length (offered_in room s) ≤ length s
offered_within room s = by (ltb room longest_event)
  where
    by : (t : Bool) → length (cond t [] s) ≤ length s
    by true = omega arith
    by false = omega arith

-- a line placed in the part of a buffer from `to` on
pub part_placed : (b l p : List ℕ) (to : ℕ) → to + length l ≤ length b → p ≡ placed (take (length b - to) (drop to b)) 0 l
    → put_mid to (length b - to) b p ≡ placed b to l
part_placed b l p to h e =
    let k : ℕ = length b - to in
    let d : List ℕ = drop to b in
    let n : length d ≡ k = length-drop to b in
    let whole : take k d ≡ d = take_all k d (omega arith) in
    let none : drop k d ≡ [] = ap (λ (m : ℕ). drop m d) (sym n) ∙ drop-length d in
    let here : p ≡ l ++ drop (to + length l) b =
    e
    ∙ ap (λ (z : List ℕ). placed z 0 l) whole
    ∙ placed_start d l (omega arith)
    ∙ ap (λ (z : List ℕ). l ++ z) (drop-drop (length l) to b) in
    (λ i. take to b ++ (here i ++ none i))
    ∙ ap (λ (z : List ℕ). take to b ++ z) (append-nil (l ++ drop (to + length l) b))
    ∙ sym (placed_fits b to l h)

module _ {r₀ : Reader} {s b₀ : List ℕ} {r : Reader} {b : List ℕ} {at to : ℕ} (w : Turn r₀ s b₀ r b at to) (x : Fed)
    (q : FeedPost r (offered_in (length b - to) (drop at s)) x) where
  -- the bytes taken lie within s; where there are any, there was room for a line, and fed is past 0
  pub turn_within : at + x.taken ≤ length s
  turn_within =
      omega (
        arith,
        taken_fits r (offered_in (length b - to) (drop at s)) x q,
        offered_within (length b - to) (drop at s),
        length-drop at s,
        w.within,
      )

  pub turn_room : 0 < x.taken → longest_event ≤ length b - to
  turn_room h = ltb-false (length b - to) longest_event (room_left r (drop at s) (length b - to) x q h)

  pub turn_fed : 0 < x.taken → 0 < x.reader.head.fed
  turn_fed h = fed_some r (offered_in (length b - to) (drop at s)) x q h

  -- something was taken, and its line written
  pub turn_more : (b' : List ℕ) (k : ℕ) → 0 < x.taken → k ≡ length (line_from x) → to + k ≤ length b → b' ≡ placed b to (line_from x)
      → Turn r₀ s b₀ x.reader b' (at + x.taken) (to + k)
  turn_more b' k h ek hk eb =
      let l : List ℕ = line_from x in
      let p : List ℕ = take to b in
      let rest : List ℕ = drop (to + length l) b in
      let n : length p ≡ to = length-take-le to b w.room in
      let hl : to + length l ≤ length b = omega arith in
      let all : b' ≡ (p ++ l) ++ rest = eb ∙ placed_fits b to l hl ∙ sym (append_assoc p l rest) in
      let front : take (to + k) b' ≡ p ++ l = ap (take (to + k)) all ∙ take_at (p ++ l) rest (to + k) (omega (arith, length-append p l)) in
      let long : length b' ≡ length b = ap length eb ∙ length_placed b to l in
      record {
        within = turn_within;
        room = omega arith;
        same = long ∙ w.same;
        written =
            eb
            ∙ ap (λ (z : List ℕ). placed z to l) w.written
            ∙ placed_after b₀ p l to (sym n) (omega (arith, w.same))
            ∙ ap (placed b₀ 0) (sym front);
        right = λ g v m t o.
            let left : length b' - (to + k) ≡ length b - to - length l = omega arith in
            let past : drop (at + x.taken) s ≡ drop x.taken (drop at s) = sym (drop-drop x.taken at s) in
            let o' : PartOut x.reader (drop x.taken (drop at s)) (length b - to - length l) g v m t =
            subst (λ (j : ℕ). PartOut x.reader (drop x.taken (drop at s)) j g v m t) left
            (subst (λ (d : List ℕ). PartOut x.reader d (length b' - (to + k)) g v m t) past o) in
            let u = w.right g v (x.taken + m) (l ++ t) (call_more r (drop at s) (length b - to) x q h g v m t o') in
            rw (front, append_assoc, add_assoc) u;
      }

  -- nothing was taken
  pub turn_last : (o : Option Refusal) → why o ≡ event_number (told x.answer.event) → x.taken ≡ 0
      → PartPost r₀ s b₀ (record { reader = x.reader; refusal = o; taken = at; length = to }) b
  turn_last o eo z =
      let v = event_number (told x.answer.event) in
      let n : length (take to b) ≡ to = length-take-le to b w.room in
      let u : PartOut r₀ s (length b₀) x.reader v at (take to b) =
      subst (λ (l : List ℕ). PartOut r₀ s (length b₀) x.reader v at l) (append-nil (take to b))
      (subst (λ (k : ℕ). PartOut r₀ s (length b₀) x.reader v k (take to b ++ [])) (add-zero at)
      (w.right x.reader v 0 [] (call_last r (drop at s) (length b - to) x q z))) in
      let still : take to b ≡ [] → (to ≡ 0) × (b ≡ b₀) =
      λ e. (sym n ∙ ap length e, w.written ∙ ap (placed b₀ 0) e ∙ placed_nil b₀ 0) in
      record {
        one = λ m. let a = u.one m in (a.0, eo ∙ a.1, a.2, (still a.3).0, (still a.3).1);
        two = λ m f. let a = u.two m f in (a.0, eo ∙ a.1, a.2, (still a.3).0, (still a.3).1);
        three = λ m p f h. absurd f;
        rest = λ m p f.
            let a = u.rest m p f in
            (a.0, eo ∙ a.1, a.2, sym n ∙ ap length a.3, w.written ∙ ap (placed b₀ 0) a.3);
      }
