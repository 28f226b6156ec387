-- Laws of the messages of a list that are taken one after the other.
use Rattle.std.proofs.Common.{◌≡◌, refl, sym, ap, ◌∙◌, subst, Bool, true, false, ltb, ℕ, ◌+◌, ◌<◌, List, length, drop, length-drop, arith, Some, None, Ok}
use Rattle.std.proofs.lemmas.List.{length-take-le}
use Rattle.std.specs.Borrow.{Bor}
use borrow.Author.Tests.{ltb-true, ltb-false}
use Rattle.kinds.specs.Kinds.{content}
use Rattle.batch.specs.declared.Message.{Message}
use Rattle.batch.specs.declared.Messages.{Messages}
use Rattle.batch.specs.Entries.{Header, length_in, body_in, wrong, judged, header_of, first_of, ahead, contents_of, AcceptableEntry}
use Rattle.batch.specs.Walks.{Splits, First, entry, Gives}
use Rattle.batch.proofs.EntryLaws.{taken, no_header, cut_short, header_whole, judged_yes, judged_no}
use Rattle.batch.proofs.ContentsLaws.{at_entry}

-- an entry as it stands is judged by its data
module _ (s : List ℕ) (m : Message) (t : Bor (List ℕ)) (p : Splits s (Some (m, t))) where
  abbrev n : ℕ
  n = length m.data.now

  split_length : n ≡ length_in s
  split_length = ap length p.2 ∙ length-take-le (length_in s) (drop 3 s) (rw (length-drop 3 s) (omega (arith, p.0)))

  split_judged : header_of s ≡ judged (content m.id m.data.now) m.id n
  split_judged =
      header_whole s (omega (arith, p.0)) p.0
      ∙ (λ k. judged (content (sym p.1 k) (sym p.2 k)) (sym p.1 k) (sym split_length k))

  pub split_refused : (v : ℕ) → v ≡ content m.id m.data.now → (v ≡ 0 → ⊥) → header_of s ≡ wrong v
  split_refused v e z = split_judged ∙ judged_no (content m.id m.data.now) m.id n (λ y. z (e ∙ y)) ∙ ap wrong (sym e)

  pub split_given : content m.id m.data.now ≡ 0 → First s m t.now
  split_given e = (
    split_judged ∙ judged_yes (content m.id m.data.now) m.id n e,
    p.2 ∙ ap (λ k. body_in k s) (sym split_length),
    p.3 ∙ ap (λ k. drop (3 + k) s) (sym split_length),
  )

-- bytes that end before their first entry does
pub split_none : (s : List ℕ) → Splits s None → header_of s ≡ wrong 19
split_none s p = by (ltb (length s) 3) refl
  where
    by : (a : Bool) → ltb (length s) 3 ≡ a → header_of s ≡ wrong 19
    by true q = no_header s (ltb-true (length s) 3 q)
    by false q = cut_short s (ltb-false (length s) 3 q) p

-- a first message, and the bytes t after it
pub first_taken : (s : List ℕ) (m : Message) (t : Bor (List ℕ)) → 0 < length s → First s m t.now
    → (contents_of s ≡ ahead (entry m) (contents_of t.now)) × AcceptableEntry (entry m) × (length s ≡ 3 + length m.data.now + length t.now)
first_taken s m t l g =
    let n = length m.data.now in
    let z = ap (λ (h : Header). h.refusal) g.0 in
    let k = taken s z in
    let i = ap (λ (h : Header). h.id) g.0 in
    let j = ap (λ (h : Header). h.length) g.0 in
    let x : first_of s ≡ entry m = λ q. record { id = i q; body = (ap (λ b. body_in b s) j ∙ sym g.1) q } in (
      at_entry s l z ∙ (λ q. ahead (x q) (contents_of (drop (3 + j q) s))) ∙ ap (λ b. ahead (entry m) (contents_of b)) (sym g.2),
      subst AcceptableEntry x k.acceptable,
      omega (arith, k.within, ap length g.2, length-drop (3 + n) s, j),
    )

-- where the first entry is not refused, it stands there as it is given
pub split_gives : (s t : Messages) (m : Message) → (header_of s.rest.now).refusal ≡ 0 → Splits s.rest.now (Some (m, t.rest)) → Gives s (Some (Ok m)) t
split_gives s t m z p =
    let b = s.rest.now in
    let k = taken b z in
    let a : content m.id m.data.now ≡ 0 = (λ q. content ((p.1 ∙ sym k.id) q) ((p.2 ∙ ap (λ j. body_in j b) (sym k.size)) q)) ∙ k.acceptable in
    let f = split_given b m t.rest p a in
    let g = first_taken b m t.rest (omega (arith, p.0)) f in (g.0, g.1, g.2, f)
