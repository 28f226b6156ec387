-- What the word of 47h data and the data of a word are, for any data, word and buffer: over what `word` and `write` return.
use mathlib.Core.Path.{◌≡◌, refl, sym, ap, ◌∙◌, subst}
use mathlib.Core.Bool.{Bool, true, false, cond}
use mathlib.Core.List.{List}
use mathlib.Core.Logic.{◌⊎◌, inl, inr}
use Prim.Native.Nat.{ℕ, ◌/◌, ◌^◌, ◌≤◌, ◌<◌}
use native.Mathlib.Nat.{div-eq_of_lt}
use native.Mathlib.Omega.{arith}
use borrow.Author.Tests.{eqb-true, eqb-false, eq-eqb, ltb-true, ltb-false}
use lib.Count.{ones}
use lib.Dec.{eqb, ltb}
use lib.ListN.{length, take}
use Rattle.octets.specs.Placing.{placed}
use Rattle.octets.specs.Delivery.{accepted, written_of, filled_of}
use Rattle.octets.specs.Delivery.{Written}
use Rattle.octets.proofs.DeliveryLaws.{short, writes, refused_none}
use Rattle.ranges.specs.Ranges.{in_47}
use Rattle.kinds.specs.Kinds.{content}
use Rattle.kinds.proofs.OnlyLaws.{judged_47}
use Rattle.encoding.proofs.CallLaws.{call_back, call_writes}
use Rattle.in_use.specs.InUse.{InUse, word_of, gives, refuses, in_use_of, data_of, refusal_of}
use Rattle.in_use.specs.Meaning.{Shows, Contained, enabled_in, First, by_bit, by_room}
use Rattle.in_use.proofs.WordLaws.{answer, word_lt}
use Rattle.in_use.proofs.DataLaws.{length_data, data_good}
use Rattle.in_use.proofs.RefusalLaws.{passes_17, refused_17, some_above, not_above}
use Rattle.in_use.proofs.CountingLaws.{counted}
use Rattle.in_use.proofs.ShownLaws.{shows, one_word, same_word}
use Rattle.in_use.proofs.BackLaws.{read_word, holds_all, holds_only}

-- ---- what the call answers

module _ (d : List ℕ) (r : InUse) (is : r ≡ in_use_of d) where
  given : r.refusal ≡ 0 → (content 0x47 d ≡ 0) × (r ≡ gives (word_of d))
  unfolding in_use_of
  given z = go (eqb (content 0x47 d) 0) refl is
    where
      go : (t : Bool) → eqb (content 0x47 d) 0 ≡ t → r ≡ cond t (gives (word_of d)) (refuses (content 0x47 d)) → (content 0x47 d ≡ 0) × (r ≡ gives (word_of d))
      go true e q = (eqb-true (content 0x47 d) 0 e, q)
      go false e q = absurd (eqb-false (content 0x47 d) 0 e (sym (ap (λ (x : InUse). x.refusal) q) ∙ z))

  -- refused, by 11 or 12, all are 0 but the refusal
  pub refused : (r.refusal ≡ 0 → ⊥) → ((r.refusal ≡ 11) ⊎ (r.refusal ≡ 12)) × (r.word ≡ 0) × (r.count ≡ 0)
  unfolding in_use_of
  refused n = go (eqb (content 0x47 d) 0) is
    where
      number : (a b : Bool) → r.refusal ≡ answer a b → (r.refusal ≡ 11) ⊎ (r.refusal ≡ 12)
      number true true q = absurd (n q)
      number true false q = inr q
      number false b q = inl q

      go : (t : Bool) → r ≡ cond t (gives (word_of d)) (refuses (content 0x47 d)) → ((r.refusal ≡ 11) ⊎ (r.refusal ≡ 12)) × (r.word ≡ 0) × (r.count ≡ 0)
      go true q = absurd (n (ap (λ (x : InUse). x.refusal) q))
      go false q = (
        number (eqb (length d) 168) (in_47 d) (ap (λ (x : InUse). x.refusal) q ∙ judged_47 d),
        ap (λ (x : InUse). x.word) q,
        ap (λ (x : InUse). x.count) q,
      )

pub accepts : (d : List ℕ) → content 0x47 d ≡ 0 → in_use_of d ≡ gives (word_of d)
unfolding in_use_of
accepts d e = ap (λ (t : Bool). cond t (gives (word_of d)) (refuses (content 0x47 d))) (eq-eqb (content 0x47 d) 0 e)

-- ---- the word and its count

module _ (d : List ℕ) (r : InUse) (is : r ≡ in_use_of d) (z : r.refusal ≡ 0) where
  abbrev word_is : r.word ≡ word_of d
  word_is = ap (λ (x : InUse). x.word) (given d r is z).1

  -- each bit is 1 exactly where some triple enables its satellite
  pub each_bit : Shows d r.word
  each_bit = subst (Shows d) (sym word_is) (shows d (given d r is z).0)

  -- and no other word of 64 bits is so
  pub exactly : (w : ℕ) → w < 2 ^ 64 → Shows d w → w ≡ r.word
  exactly w l s = one_word d w r.word l (subst (λ v. v < 2 ^ 64) (sym word_is) (omega (arith, word_lt d))) s each_bit

  -- the count is that of the bits, and of the triples with use 1
  pub counts : (r.count ≡ ones r.word) × (r.count ≡ enabled_in d)
  counts =
      let g = given d r is z in
      let c : r.count ≡ ones (word_of d) = ap (λ (x : InUse). x.count) g.1 in
      (c ∙ ap ones (sym word_is), c ∙ counted d g.0)

-- two messages with the same triples in any order have one word and one count
pub any_order : (d e : List ℕ) (r q : InUse) → r ≡ in_use_of d → q ≡ in_use_of e → r.refusal ≡ 0 → q.refusal ≡ 0 → Contained d e → r ≡ q
any_order d e r q isr isq zr zq h =
    let x = given d r isr zr in
    let y = given e q isq zq in
    x.1 ∙ ap gives (same_word d e x.0 y.0 h) ∙ sym y.1

-- ---- written, and read back

module _ (w : ℕ) (b b' : List ℕ) (a : Written) (is : a ≡ written_of (refusal_of w) (data_of w) b) (left : b' ≡ filled_of (refusal_of w) (data_of w) b) where
  -- 17 of a bit above 55, then 13 of a buffer under 168 bytes, else 0
  pub first : w < 2 ^ 64 → First w b a.refusal
  first l = go (eqb (w / 2 ^ 56) 0) refl (ltb (length b) 168) refl
    where
      told : (v : ℕ) → (written_of (refusal_of w) (data_of w) b).refusal ≡ v → First w b v → First w b a.refusal
      told v e f = subst (First w b) (sym (ap (λ (x : Written). x.refusal) is ∙ e)) f

      go : (s : Bool) → eqb (w / 2 ^ 56) 0 ≡ s → (t : Bool) → ltb (length b) 168 ≡ t → First w b a.refusal
      go true x true y =
          let z = eqb-true (w / 2 ^ 56) 0 x in
          let m = ltb-true (length b) 168 y in
          let e = (short (refusal_of w) (data_of w) b (passes_17 w z) (omega (arith, length_data w))).0 in
          told 13 (ap (λ (x : Written). x.refusal) e) (by_room (not_above w z) m)
      go true x false y =
          let z = eqb-true (w / 2 ^ 56) 0 x in
          let m = ltb-false (length b) 168 y in
          let e = (writes (refusal_of w) (data_of w) b (passes_17 w z) (omega (arith, length_data w))).0 in
          told 0 (ap (λ (x : Written). x.refusal) e) (First.accepted (not_above w z) m)
      go false x t y =
          let n = eqb-false (w / 2 ^ 56) 0 x in
          told 17 (ap (λ (x : Written). x.refusal) (sym (refused_17 w b n).0)) (by_bit (some_above w l n))

  -- refused, it has length 0 and writes no byte
  pub refused_whole : (a.refusal ≡ 0 → ⊥) → (a.length ≡ 0) × (b' ≡ b)
  refused_whole n =
      let r = refused_none (refusal_of w) (data_of w) b (λ z. n (ap (λ (x : Written). x.refusal) is ∙ z)) in
      (ap (λ (x : Written). x.length) is ∙ r.0, left ∙ r.1)

  -- every word below 2^56 is written where there is room for its data
  pub writes_168 : w < 2 ^ 56 → 168 ≤ length b → (a ≡ accepted 168) × (b' ≡ placed b 0 (data_of w))
  writes_168 l room =
      let c = call_writes (refusal_of w) (data_of w) b a b' is left (data_of w) refl (passes_17 w (div-eq_of_lt l)) (omega (arith, length_data w)) in
      (c.0 ∙ ap accepted (length_data w), c.1)

  -- what is written is acceptable, and its word is the word, with its count
  pub read_back : w < 2 ^ 56 → a.refusal ≡ 0 → (r : InUse) → r ≡ in_use_of (take a.length b')
      → (content 0x47 (take a.length b') ≡ 0) × (r ≡ gives w)
  read_back l z r e =
      let t = (call_back (refusal_of w) (data_of w) b a b' is left z).1 in
      (ap (content 0x47) t ∙ data_good w, e ∙ ap in_use_of t ∙ accepts (data_of w) (data_good w) ∙ ap gives (read_word w l))

-- the word of data, written: the same triples
pub rewritten : (d b b' : List ℕ) (r : InUse) (a : Written) → r ≡ in_use_of d → r.refusal ≡ 0
    → a ≡ written_of (refusal_of r.word) (data_of r.word) b → b' ≡ filled_of (refusal_of r.word) (data_of r.word) b → 168 ≤ length b
    → (a ≡ accepted 168) × Contained d (take a.length b') × Contained (take a.length b') d
rewritten d b b' r a is z answered left room =
    let ok = (given d r is z).0 in
    let e = word_is d r is z in
    let l : r.word < 2 ^ 56 = subst (λ w. w < 2 ^ 56) (sym e) (word_lt d) in
    let w = writes_168 r.word b b' a answered left l room in
    let t : take a.length b' ≡ data_of (word_of d) =
    (call_back (refusal_of r.word) (data_of r.word) b a b' answered left (ap (λ (x : Written). x.refusal) w.0)).1 ∙ ap data_of e in
    (w.0, subst (Contained d) (sym t) (holds_all d ok), subst (λ x. Contained x d) (sym t) (holds_only d ok))
