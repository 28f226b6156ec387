-- From what an act comes to, to what the slice call returns.
use mathlib.Core.Bool.{Bool, true, false, cond}
use mathlib.Core.List.{List}
use mathlib.Core.Path.{◌≡◌, refl, ◌∙◌, subst}
use Prim.Native.Nat.{ℕ, ◌+◌}
use native.Mathlib.Omega.{arith}
use borrow.Author.Tests.{ltb-true, ltb-false}
use lib.Dec.{ltb}
use lib.ListN.{length, take}
use Rattle.line.specs.Record.{Kept, Possible, Result, walk}
use Rattle.latest.specs.Latest.{latest_of}
use Rattle.latest.specs.declared.Latest.{Latest}
use Rattle.record.specs.View.{place_of, first_bytes, view, parts_of, shown}
use Rattle.record.specs.Posts.{Refuses, FeedPost, InPlacePost, fed_of}
use Rattle.record.specs.declared.Reader.{Reader}
use Rattle.record.specs.declared.Fed.{Fed}
use Rattle.record.specs.declared.InPlace.{InPlace}
use Rattle.questions.specs.Question.{Valid, Questions}
use Rattle.reader.specs.Moving.{Out, base_of, result_of, turned}
use Rattle.refusals.specs.declared.Refusal.{Refusal}
use Rattle.refusals.specs.Numbers.{number}
use Rattle.refusals.proofs.NumberLaws.{positive}
use Rattle.reader.specs.Closing.{Finishes, is_message, stored_by, refused_by}
use Rattle.reader.specs.declared.Moved.{Moved}
use Rattle.reader.specs.declared.Closed.{Closed}

-- what a slice comes to
abbrev pub Comes : Result → Fed → Type 0
Comes w x = (view x.reader ≡ w.after) × (parts_of x.answer ≡ shown w.answer) × (x.taken ≡ w.taken)

module _ (r : Reader) (t : Moved) where
  -- what is left to do
  abbrev pub out : Out
  out = turned r.head.mode (base_of r.head (latest_of r.latest)) t.act t.now r.bytes (r.head.fed + t.at)

  pub gives : (o : Closed) (x : Latest) → Finishes (latest_of r.latest) out r.bytes o
      → ((i : Kept) → latest_of x i ≡ stored_by (is_message o.event) o.id (take o.len r.bytes) (latest_of r.latest) i)
      → Comes (result_of out t.at)
      (record {
        reader = record { head = o.head; latest = x; bytes = r.bytes };
        answer = record { event = o.event; id = o.id; len = o.len; bytes = r.bytes; closed = o.closed };
        taken = t.at;
      })
  gives o x f k = (
    (λ i.
        record {
          mode = o.head.mode;
          place = place_of o.head.place o.head.id (first_bytes o.head.len r.bytes) o.head.c1 o.head.c2;
          fed = o.head.fed;
          accepted = o.head.accepted;
          refused = o.head.refused;
          outside = o.head.outside;
          pending = o.head.pending;
          latest = λ j. k j i;
        })
        ∙ f.after,
    f.said,
    refl,
  )

module _ (r : Reader) (s : List ℕ) (v : ℕ) (q : Questions r (length s) v) where
  -- where one of questions 1 to 3 is no
  pub refuses : (x : Refusal) → number x ≡ v → InPlacePost r.head r.latest r.bytes r.bytes s (refused_by r.head r.latest x)
  unfolding first_bytes
  refuses x m =
      record {
        feeds = λ w.
            record {
              asked =
                  record {
                    one = λ z. by 1 (q.one z);
                    two = λ z g. by 2 (q.two z (λ u. g u.possible));
                    three = λ z p o l. by 3 (q.three z (valid w p) o l);
                    rest = λ z p o. absurd (positive x (m ∙ q.rest z (valid w p) o));
                  };
              array = refl;
            };
        whole = λ w. w;
        other = λ w. other w (ltb 1 r.head.mode) refl;
      }
    where
      valid : length r.bytes ≡ 1024 → Possible (view r) → Valid r
      valid w p = record { whole = w; possible = p }

      by : (k : ℕ) → v ≡ k → Refuses k r (fed_of (refused_by r.head r.latest x) r.bytes)
      by k e = subst (λ (j : ℕ). Refuses j r (fed_of (refused_by r.head r.latest x) r.bytes)) (m ∙ e) (refl, refl, refl)

      other : (length r.bytes ≡ 1024 → ⊥) → (t : Bool) → ltb 1 r.head.mode ≡ t
          → Refuses (cond t 1 2) r (fed_of (refused_by r.head r.latest x) r.bytes)
      other w true e = by 1 (q.one (ltb-true 1 r.head.mode e))
      other w false e = by 2 (q.two (ltb-false 1 r.head.mode e) (λ u. w u.whole))

  -- where questions 1 to 3 are yes
  pub answers : v ≡ 0 → (a : List ℕ) (x : InPlace) → length a ≡ 1024 → Comes (walk (view r) s) (fed_of x a)
      → InPlacePost r.head r.latest r.bytes a s x
  answers e a x w c =
      record {
        feeds = λ u.
            record {
              asked =
                  record {
                    one = λ z. absurd (let y : ⊥ = omega (arith, e, q.one z) in y);
                    two = λ z g. absurd (g (q.valid e).possible);
                    three = λ z p o l. absurd (let y : ⊥ = omega (arith, q.room e o) in y);
                    rest = λ z p o. c;
                  };
              array = refl;
            };
        whole = λ u. w;
        other = λ n. absurd (n (q.valid e).whole);
      }

-- the call in place is the call on the record by value
pub feeds : (r : Reader) (a s : List ℕ) (x : InPlace) → length r.bytes ≡ 1024 → InPlacePost r.head r.latest r.bytes a s x
    → FeedPost r s (fed_of x a)
feeds r a s x w p = p.feeds w
