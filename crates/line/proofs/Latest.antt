-- What the updates store is the last message of its kind that an answer gave.
use mathlib.Core.Bool.{Bool, true, false}
use mathlib.Core.List.{List}
use mathlib.Core.Option.{Option, none, some}
use mathlib.Core.Path.{◌≡◌, refl, sym, ap, ◌∙◌}
use Prim.Native.Nat.{ℕ}
use native.Mathlib.Omega.{arith}
use borrow.Author.Tests.{eqb-true, eqb-false, eq-eqb, ne_eqb}
use lib.Dec.{eqb}
use Rattle.line.specs.Table.Event.{nothing, message, refusal}
use Rattle.line.specs.Record.{Kept, id_of, replaced, update}
use Rattle.line.specs.Calls.{Call, History, LastGiven, Gives, Every}
use Rattle.line.specs.Calls.History.{start, call}
use Rattle.line.specs.Calls.LastGiven.{here, earlier}

-- the latest message of a kind among the answers
abbrev pub stored : Kept → History → Option (List ℕ)
stored k start = none
stored k (call h c n a) = update k a (stored k h)

-- a message of the kind replaces the latest one, and no other does
pub update_same : (k : Kept) (i : ℕ) (b : List ℕ) (n : ℕ) (o : Option (List ℕ)) → i ≡ id_of k → update k (message i b n) o ≡ some b
update_same k i b n o e = ap (λ t. replaced t b o) (eq-eqb i (id_of k) e)

pub update_other : (k : Kept) (i : ℕ) (b : List ℕ) (n : ℕ) (o : Option (List ℕ)) → (i ≡ id_of k → ⊥) → update k (message i b n) o ≡ o
update_other k i b n o e = ap (λ t. replaced t b o) (ne_eqb i (id_of k) e)

abbrev Never : ℕ → History → Type 0
Never id h = Every (λ before bs n a. Gives id a → ⊥) h

not_none : (d : List ℕ) → none ≡ some d → ⊥
not_none d e = let z : ◌≡◌ {A = ℕ} 0 1 = cc in omega arith

here_is : {id i : ℕ} {d e : List ℕ} {h : History} {c : Call} {n k : ℕ} → i ≡ id → e ≡ d → LastGiven id d (call h c n (message i e k))
here_is {id} {d = d} {h = h} {c = c} {n = n} {k = k} p q = rw (p, q) here

-- the last call gave one of the kind, or an earlier one did
pub data Last (id : ℕ) (d : List ℕ) (h : History) (i : ℕ) (e : List ℕ) : Type 0 where
  now : i ≡ id → e ≡ d → Last id d h i e
  before : (i ≡ id → ⊥) → LastGiven id d h → Last id d h i e

last_of : {id i : ℕ} {d e : List ℕ} {h : History} {c : Call} {n k : ℕ} → LastGiven id d (call h c n (message i e k)) → Last id d h i e
last_of here = now refl refl
last_of (earlier g l) = before g l

pub latest_to : (k : Kept) (d : List ℕ) (h : History) → stored k h ≡ some d → LastGiven (id_of k) d h
latest_to k d start e = absurd (not_none d e)
latest_to k d (call h c n nothing) e = earlier (λ z. z) (latest_to k d h e)
latest_to k d (call h c n (refusal v i j)) e = earlier (λ z. z) (latest_to k d h e)
latest_to k d (call h c n (message i b j)) e = by (eqb i (id_of k)) refl (latest_to k d h)
  where
    by : (t : Bool) → eqb i (id_of k) ≡ t → (stored k h ≡ some d → LastGiven (id_of k) d h)
        → LastGiven (id_of k) d (call h c n (message i b j))
    by true q f =
        let p : some b ≡ some d = sym (update_same k i b j (stored k h) (eqb-true i (id_of k) q)) ∙ e in
        here_is (eqb-true i (id_of k) q) cc
    by false q f =
        earlier (eqb-false i (id_of k) q) (f (sym (update_other k i b j (stored k h) (eqb-false i (id_of k) q)) ∙ e))

pub latest_from : (k : Kept) (d : List ℕ) (h : History) → LastGiven (id_of k) d h → stored k h ≡ some d
latest_from k d start l = elim l [ ]
latest_from k d (call h c n nothing) (earlier g l) = latest_from k d h l
latest_from k d (call h c n (refusal v i j)) (earlier g l) = latest_from k d h l
latest_from k d (call h c n (message i b j)) l = by (last_of l) (latest_from k d h)
  where
    by : Last (id_of k) d h i b → (LastGiven (id_of k) d h → stored k h ≡ some d) → update k (message i b j) (stored k h) ≡ some d
    by (now p q) f = update_same k i b j (stored k h) p ∙ ap some q
    by (before g l) f = update_other k i b j (stored k h) g ∙ f l

pub absent_to : (k : Kept) (h : History) → stored k h ≡ none → Never (id_of k) h
absent_to k start e = tt
absent_to k (call h c n nothing) e = (absent_to k h e, λ z. z)
absent_to k (call h c n (refusal v i j)) e = (absent_to k h e, λ z. z)
absent_to k (call h c n (message i b j)) e = by (eqb i (id_of k)) refl (absent_to k h)
  where
    by : (t : Bool) → eqb i (id_of k) ≡ t → (stored k h ≡ none → Never (id_of k) h) → Never (id_of k) (call h c n (message i b j))
    by true q f = absurd (not_none b (sym e ∙ update_same k i b j (stored k h) (eqb-true i (id_of k) q)))
    by false q f =
        let g = eqb-false i (id_of k) q in
        (f (sym (update_other k i b j (stored k h) g) ∙ e), g)

pub absent_from : (k : Kept) (h : History) → Never (id_of k) h → stored k h ≡ none
absent_from k start l = refl
absent_from k (call h c n nothing) (l, g) = absent_from k h l
absent_from k (call h c n (refusal v i j)) (l, g) = absent_from k h l
absent_from k (call h c n (message i b j)) (l, g) = update_other k i b j (stored k h) g ∙ absent_from k h l
