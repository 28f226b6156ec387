-- Laws of what a list holds, entry by entry: the end, a refusal, an entry; and that a list laid out gives its entries back.
use mathlib.Core.Bool.{Bool, true, false, cond}
use mathlib.Core.List.{List, [], ◌∷◌, ◌++◌, append_assoc}
use mathlib.Core.Path.{◌≡◌, refl, sym, ap, ◌∙◌}
use Prim.Native.Nat.{ℕ, zero, suc, ◌+◌, ◌^◌, ◌≤◌, ◌<◌}
use native.Mathlib.Omega.{arith}
use borrow.Author.Tests.{eq-eqb, ne_eqb, eqb-true, le-ltb, lt-ltb}
use lib.Dec.{eqb}
use lib.ListN.{length, take, drop, length-append}
use lib.Seq.{take_at, drop_at, drop-drop}
use Rattle.numbers.specs.Number.{number_of, bytes_of}
use Rattle.numbers.proofs.NumberLaws.{length_bytes, number_bytes, number_in}
use Rattle.kinds.specs.Kinds.{content}
use Rattle.kinds.proofs.ContentLaws.{content_length}
use Rattle.batch.specs.Entries.{Header, Entry, entry_bytes, list_bytes, length_in, body_in, judged, header_of, first_of, rest_of, Contents, ahead, contents_up_to, contents_of, limit, list_of, Each, AcceptableEntry}
use Rattle.batch.specs.Entries.Contents.{entries, refused}
use Rattle.batch.specs.Entries.Each.{none, also}
use Rattle.batch.proofs.EntryLaws.{header_whole, judged_yes, rest_less}

-- more turns than bytes change nothing
enough : (j k : ℕ) (s : List ℕ) → length s ≤ j → length s ≤ k → contents_up_to j s ≡ contents_up_to k s
unfolding contents_up_to
enough zero zero s p q = refl
enough zero (suc k) s p q = rw (eq-eqb (length s) 0 (omega arith))
enough (suc j) zero s p q = rw (eq-eqb (length s) 0 (omega arith))
enough (suc j) (suc k) s p q =
    by (eqb (header_of s).refusal 0) refl (λ l. enough j k (rest_of s) (omega arith) (omega arith))
  where
    go : Bool → Contents → Contents
    go t x = cond (eqb (length s) 0) (entries []) (cond t (ahead (first_of s) x) (refused (header_of s).refusal))

    by : (t : Bool) → eqb (header_of s).refusal 0 ≡ t
        → (length (rest_of s) < length s → contents_up_to j (rest_of s) ≡ contents_up_to k (rest_of s))
        → go t (contents_up_to j (rest_of s)) ≡ go t (contents_up_to k (rest_of s))
    by true e f = ap (go true) (f (rest_less s (eqb-true (header_of s).refusal 0 e)))
    by false e f = refl

pub at_end : (s : List ℕ) → length s ≡ 0 → contents_of s ≡ entries []
unfolding contents_of contents_up_to
at_end s e = rw e

module _ (s : List ℕ) (h : 0 < length s) where
  abbrev turn : Bool → Contents
  turn t = cond t (ahead (first_of s) (contents_up_to (length s) (rest_of s))) (refused (header_of s).refusal)

  one_turn : contents_of s ≡ turn (eqb (header_of s).refusal 0)
  unfolding contents_of contents_up_to
  one_turn =
      enough (length s) (suc (length s)) s (omega arith) (omega arith)
      ∙ (λ k. cond (ne_eqb (length s) 0 (λ z. omega arith) k) (entries []) (turn (eqb (header_of s).refusal 0)))

  pub at_refusal : ((header_of s).refusal ≡ 0 → ⊥) → contents_of s ≡ refused (header_of s).refusal
  at_refusal n = one_turn ∙ ap turn (ne_eqb (header_of s).refusal 0 n)

  pub at_entry : (header_of s).refusal ≡ 0 → contents_of s ≡ ahead (first_of s) (contents_of (rest_of s))
  unfolding contents_of
  at_entry e =
      one_turn
      ∙ ap turn (eq-eqb (header_of s).refusal 0 e)
      ∙ ap (ahead (first_of s)) (enough (length s) (length (rest_of s)) (rest_of s) (omega (arith, rest_less s e)) (omega arith))

-- the whole buffer
pub list_long : (s : List ℕ) → limit < length s → list_of s ≡ refused 19
unfolding list_of
list_long s h = λ k. cond (lt-ltb limit (length s) h k) (refused 19) (contents_of s)

pub list_short : (s : List ℕ) → length s ≤ limit → list_of s ≡ contents_of s
unfolding list_of
list_short s h = λ k. cond (le-ltb limit (length s) h k) (refused 19) (contents_of s)

-- an entry laid out, and what follows it
module _ (x : Entry) (a : AcceptableEntry x) (t : List ℕ) where
  abbrev n : ℕ
  n = length x.body

  abbrev s : List ℕ
  s = entry_bytes x ++ t

  -- its length takes two bytes
  short : n < 256 ^ 2
  short = omega (arith, content_length x.id x.body a)

  long : length s ≡ 3 + n + length t
  long = simp (length-append, length_bytes) (omega arith)

  after_id : drop 1 s ≡ bytes_of 2 n ++ (x.body ++ t)
  after_id = append_assoc (bytes_of 2 n) x.body t

  length_back : length_in s ≡ n
  length_back =
      number_in s 1 2 (omega (arith, long))
      ∙ ap (λ l. number_of (take 2 l)) after_id
      ∙ ap number_of (take_at (bytes_of 2 n) (x.body ++ t) 2 (length_bytes 2 n))
      ∙ number_bytes 2 n short

  after_header : drop 3 s ≡ x.body ++ t
  after_header = sym (drop-drop 2 1 s) ∙ ap (drop 2) after_id ∙ drop_at (bytes_of 2 n) (x.body ++ t) 2 (length_bytes 2 n)

  body_back : body_in n s ≡ x.body
  body_back = ap (take n) after_header ∙ take_at x.body t n refl

  header_back : header_of s ≡ record { refusal = 0; id = x.id; length = n }
  header_back =
      header_whole s (omega (arith, long)) (omega (arith, long, length_back))
      ∙ (λ k. judged (content x.id (body_in (length_back k) s)) x.id (length_back k))
      ∙ ap (λ b. judged (content x.id b) x.id n) body_back
      ∙ judged_yes (content x.id x.body) x.id n a

  rest_back : drop (3 + n) s ≡ t
  rest_back = sym (drop-drop n 3 s) ∙ ap (drop n) after_header ∙ drop_at x.body t n refl

  entry_back : contents_of s ≡ ahead x (contents_of t)
  entry_back =
      at_entry s (omega (arith, long)) (ap (λ (h : Header). h.refusal) header_back)
      ∙ (λ k. ahead (record { id = (header_back k).id; body = body_in (header_back k).length s }) (contents_of (drop (3 + (header_back k).length) s)))
      ∙ (λ k. ahead (record { id = x.id; body = body_back k }) (contents_of (rest_back k)))

contents_back : (xs : List Entry) → Each AcceptableEntry xs → contents_of (list_bytes xs) ≡ entries xs
unfolding list_bytes
contents_back [] none = at_end [] refl
contents_back (x ∷ xs) (also a more) = entry_back x a (list_bytes xs) ∙ ap (ahead x) (contents_back xs more)

pub list_back : (xs : List Entry) → Each AcceptableEntry xs → length (list_bytes xs) ≤ limit → list_of (list_bytes xs) ≡ entries xs
list_back xs a h = list_short (list_bytes xs) h ∙ contents_back xs a
