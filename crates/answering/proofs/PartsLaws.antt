-- Laws of a part that is laid down again and again, as often as there is room, and of the rest after it.
use mathlib.Core.Path.{◌≡◌, refl, sym, ap, ◌∙◌}
use mathlib.Core.Bool.{true, false}
use mathlib.Core.List.{List, [], ◌∷◌, ◌++◌, append_assoc, append-nil}
use Prim.Native.Nat.{ℕ, zero, suc, ◌+◌, ◌*◌, ◌/◌, ◌≤◌, ◌<◌}
use native.Mathlib.Nat.{suc-mul, zero-mul}
use native.Mathlib.Numerals.{add-one}
use native.Mathlib.Omega.{arith}
use borrow.Author.Tests.{le-leb, lt-leb, leb-true, leb-false}
use lib.ListN.{length, take, drop, length-append, length-drop}
use lib.Seq.{length-take-le}
use Rattle.std.proofs.Common.{min, None, Some}
use Rattle.std.proofs.Math.Nat.{min-eq_left, min-eq_right, le-div_iff_mul-le, div-lt_iff_lt-mul}
use Rattle.std.specs.List.{repeat}
use Rattle.octets.specs.Placing.{fits, placed}
use Rattle.octets.proofs.PlacingLaws.{length_placed, placed_nil, placed_more, placed_out}
use Rattle.numbers.specs.Number.{number_at}
use Rattle.answering.specs.Parts.{size, whole, parts, text, has_room, laid, laid_into}

repeat_turned : (n : ℕ) (p : List ℕ) → p ++ repeat n p ≡ repeat n p ++ p
repeat_turned zero p = append-nil p
repeat_turned (suc n) p = ap (λ (l : List ℕ). p ++ l) (repeat_turned n p) ∙ sym (append_assoc p (repeat n p) p)

repeat_more : (n : ℕ) (p : List ℕ) → repeat (n + 1) p ≡ repeat n p ++ p
repeat_more n p = rw add-one (repeat_turned n p)

repeat_nil : (n : ℕ) → repeat {A = ℕ} n [] ≡ []
repeat_nil zero = refl
repeat_nil (suc n) = repeat_nil n

length_repeat : (n : ℕ) (p : List ℕ) → length (repeat n p) ≡ n * length p
length_repeat zero p = sym (zero-mul (length p))
length_repeat (suc n) p = omega (arith, length-append p (repeat n p), length_repeat n p, suc-mul n (length p))

-- all of them have room
often_all : (n room : ℕ) (p : List ℕ) → n * length p ≤ room → repeat (min n (room / length p)) p ≡ repeat n p
often_all n room [] h = repeat_nil (min n (room / length {A = ℕ} [])) ∙ sym (repeat_nil n)
often_all n room (x ∷ q) h =
    ap (λ (k : ℕ). repeat k (x ∷ q)) (min-eq_left ((le-div_iff_mul-le {k = length (x ∷ q)} {x = n} {y = room} (omega arith)).1 h))

-- one more has none
often_some : (n i room w : ℕ) → i < n → i * w ≤ room → room < i * w + w → min n (room / w) ≡ i
often_some n i room w h l m =
    let pos : 0 < w = omega arith in
    let low : i ≤ room / w = (le-div_iff_mul-le {k = w} {x = i} {y = room} pos).1 l in
    let up : room / w < suc i = (div-lt_iff_lt-mul {k = w} {x = room} {y = suc i} pos).1 (omega (arith, suc-mul i w)) in
    let e : room / w ≡ i = omega arith in
    min-eq_right (omega arith) ∙ e

-- b: the buffer at first; p: the part
module _ (b p : List ℕ) where
  -- the part stands so many times at the buffer's start, up to a place
  abbrev pub Stands : ℕ → ℕ → List ℕ → Type 0
  Stands i at buf = (buf ≡ placed b 0 (repeat i p)) × (at ≡ length (repeat i p)) × (at ≤ length b)

  pub stands_none : Stands 0 0 b
  stands_none = (sym (placed_nil b 0), refl, omega arith)

  module _ (i at : ℕ) (buf new : List ℕ) (t : List ℕ) where
    stands_long : Stands i at buf → length buf ≡ length b
    stands_long s = ap length s.0 ∙ length_placed b 0 (repeat i p)

    -- t right after it
    pub stands_then : Stands i at buf → true ≡ fits buf at (length t) → new ≡ placed buf at t
        → (new ≡ placed b 0 (repeat i p ++ t)) × (at + length t ≡ length (repeat i p ++ t)) × (at + length t ≤ length b)
    stands_then s f e =
        let long = stands_long s in
        let room : at + length t ≤ length b = omega (arith, leb-true (at + length t) (length buf) (sym f)) in
        let at_is : at ≡ 0 + length (repeat i p) = omega (arith, s.1) in (
          e ∙ (λ j. placed (s.0 j) (at_is j) t) ∙ placed_more b 0 (repeat i p) t (omega (arith, s.1)),
          omega (arith, s.1, length-append (repeat i p) t),
          room,
        )

    -- where t has no room
    pub stands_still : Stands i at buf → false ≡ fits buf at (length t) → new ≡ placed buf at t → (new ≡ buf) × (length b < at + length t)
    stands_still s f e =
        let long = stands_long s in
        let out : length buf < at + length t = leb-false (at + length t) (length buf) (sym f) in
        (e ∙ placed_out buf at t out, omega arith)

  pub stands_more : (i at : ℕ) (buf new : List ℕ) → Stands i at buf → true ≡ fits buf at (length p) → new ≡ placed buf at p
      → Stands (i + 1) (at + length p) new
  stands_more i at buf new s f e = let r = stands_then i at buf new p s f e in rw repeat_more r

  -- after the last turn, and after one that found no room
  pub stands_all : (n i at : ℕ) (buf left : List ℕ) → n ≤ i → i ≤ n → left ≡ buf → Stands i at buf → Stands (min n (length b / length p)) at left
  stands_all n i at buf left h k l s =
      let e : i ≡ n = omega arith in
      rw (l, often_all n (length b) p (omega (arith, s.1, s.2, length_repeat i p, ap (λ (m : ℕ). m * length p) e)), sym e) s

  pub stands_out : (n i at : ℕ) (buf new left : List ℕ) → i < n → left ≡ new → Stands i at buf → false ≡ fits buf at (length p)
      → new ≡ placed buf at p → Stands (min n (length b / length p)) at left
  stands_out n i at buf new left h l s f e =
      let r = stands_still i at buf new p s f e in
      let k = length_repeat i p in
      rw (l, r.0, often_some n i (length b) (length p) h (omega (arith, s.1, s.2)) (omega (arith, s.1, r.1))) s

-- s: the call's bytes
module _ (s b p t : List ℕ) (n w : ℕ) (en : n ≡ number_at s 2 2) (ew : w ≡ number_at s 4 2) (h : 6 + w ≤ length s)
    (ep : p ≡ take w (drop 6 s)) (et : t ≡ drop w (drop 6 s)) where
  whole_is : whole s b ≡ true
  whole_is = le-leb (6 + size s b) (length s) (omega arith)

  parts_is : parts s b ≡ repeat (min n (length b / length p)) p
  parts_is =
      let long : length p ≡ w = ap length ep ∙ length-take-le w (drop 6 s) (omega (arith, length-drop 6 s)) in
      let e : size s b ≡ length p = omega arith in
      λ j. repeat (min (sym en j) (length b / e j)) ((ap (λ (k : ℕ). take k (drop 6 s)) (sym ew) ∙ sym ep) j)

  text_is : text s b ≡ repeat (min n (length b / length p)) p ++ t
  text_is = λ j. parts_is j ++ (ap (λ (k : ℕ). drop k (drop 6 s)) (sym ew) ∙ sym et) j

  module _ (at : ℕ) (buf new : List ℕ) (st : Stands b p (min n (length b / length p)) at buf) (e : new ≡ placed buf at t) where
    pub laid_whole : true ≡ fits buf at (length t) → (Some (at + length t) ≡ laid s b) × (new ≡ laid_into s b)
    laid_whole f =
        let r = stands_then b p _ at buf new t st f e in
        let room : has_room s b ≡ true = le-leb (length (text s b)) (length b) (omega (arith, r.1, r.2, ap length text_is)) in
        rw (whole_is, room, text_is) (ap Some r.1, r.0)

    pub laid_short : false ≡ fits buf at (length t) → (None ≡ laid s b) × (new ≡ laid_into s b)
    laid_short f =
        let r = stands_still b p _ at buf new t st f e in
        let none : has_room s b ≡ false =
        lt-leb (length (text s b)) (length b) (omega (arith, r.1, st.1, ap length text_is, length-append (repeat (min n (length b / length p)) p) t)) in
        rw (whole_is, none, parts_is) (refl, r.0 ∙ st.0)
