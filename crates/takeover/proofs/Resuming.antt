-- What taking over returns, by the answer of questions 1 and 2; that a record goes on, and that what stands in for one is refused.
use mathlib.Core.List.{List}
use mathlib.Core.Path.{◌≡◌, refl, sym, ap, ◌∙◌, subst}
use Prim.Native.Nat.{ℕ, ◌≤◌}
use native.Mathlib.Omega.{arith}
use lib.ListN.{length}
use Rattle.std.specs.Prelude.{Option, Some, None}
use Rattle.refusals.specs.declared.Refusal.{Refusal}
use Rattle.refusals.specs.Numbers.{why}
use Rattle.refusals.proofs.NumberLaws.{positive}
use Rattle.line.specs.Table.Event.{refusal}
use Rattle.line.specs.Record.{Rec, Possible, Asked, stepped, event_of}
use Rattle.record.specs.View.{view, parts_of, shown}
use Rattle.record.specs.Posts.{StepPost, FeedPost, InPlacePost, Refuses, fed_of}
use Rattle.record.specs.declared.Stepped.{Stepped}
use Rattle.record.specs.declared.Fed.{Fed}
use Rattle.record.specs.declared.InPlace.{InPlace}
use Rattle.record.specs.declared.Reader.{Reader}
use Rattle.questions.specs.Question.{Questions}
use Rattle.takeover.specs.declared.Reader32.{Reader32}
use Rattle.takeover.specs.declared.TakenOver.{TakenOver}
use Rattle.takeover.specs.Takeover.{limit32, view32, same_parts, no_record, TakeOverPost}
use Rattle.takeover.proofs.Kept.{same_view}

module _ (o : Reader32) (f : Option Refusal) (whole : length o.bytes ≡ 1024) (q : Questions (same_parts o) 0 (why f)) where
  here : Possible (view (same_parts o)) → Possible (view32 o)
  here = subst Possible (same_view o)

  there : Possible (view32 o) → Possible (view (same_parts o))
  there = subst Possible (sym (same_view o))

  -- refused: there is no record
  pub refuses : (why f ≡ 0 → ⊥) → (r : Reader) → r ≡ no_record → TakeOverPost o (record { refusal = f; reader = r })
  refuses n r e =
      record {
        asked =
            record {
              one = λ z. (q.one z, e);
              two = λ z b. (q.two z (λ p. b (here p.possible)), e);
              three = λ z p b. absurd b;
              rest = λ z p b. absurd (n (q.rest z (record { whole = whole; possible = there p }) (λ w. absurd (omega arith))));
            };
        whole = λ z. absurd (n z);
      }

  -- accepted: the same parts
  pub accepts : why f ≡ 0 → (r : Reader) → r ≡ same_parts o → TakeOverPost o (record { refusal = f; reader = r })
  accepts z r e =
      record {
        asked =
            record {
              one = λ l. absurd (let w : ⊥ = omega (arith, q.mode z) in w);
              two = λ l b. absurd (b (here (q.valid z).possible));
              three = λ l p b. absurd b;
              rest = λ l p b. (z, ap view e ∙ same_view o);
            };
        whole = λ z. e;
      }

-- today's record of the old parts, which questions 1 and 2 accept or refuse
pub admitted : (o : Reader32) (r : Reader) (x : TakenOver) → r ≡ same_parts o → length o.bytes ≡ 1024
    → Questions r 0 (why x.refusal) → (why x.refusal ≡ 0 → x.reader ≡ r) → ((why x.refusal ≡ 0 → ⊥) → x.reader ≡ no_record)
    → TakeOverPost o x
admitted o r x e w q kept none = by x.refusal refl
  where
    asked : Questions (same_parts o) 0 (why x.refusal)
    asked = subst (λ s. Questions s 0 (why x.refusal)) e q

    by : (f : Option Refusal) → x.refusal ≡ f → TakeOverPost o x
    by None z = accepts o x.refusal w asked (ap why z) x.reader (kept (ap why z) ∙ e)
    by (Some v) z = refuses o x.refusal w asked n x.reader (none n)
      where
        n : why x.refusal ≡ 0 → ⊥
        n u = positive v (sym (ap why z) ∙ u)

-- taken over, a record goes on, one that was full among them: a step takes its byte, as the table reads it
pub steps_on : (o : Reader32) (x : TakenOver) → TakeOverPost o x → o.head.mode ≤ 1 → Possible (view32 o) → o.head.fed ≤ limit32
    → (b : ℕ) (y : Stepped) → StepPost x.reader b y
    → (view y.reader ≡ stepped (view32 o) b) × (parts_of y.answer ≡ shown (event_of (view32 o) b))
steps_on o x p m q f b y s =
    let w = p.asked.rest m q (λ z. absurd z) in
    (subst
    (λ (v : Rec). Asked v (Unit {0}) (λ n. (y.reader ≡ x.reader) × (parts_of y.answer ≡ shown (refusal n 0 0)))
    ((view y.reader ≡ stepped v b) × (parts_of y.answer ≡ shown (event_of v b))))
    w.1 s.asked).rest m q (λ u. omega arith)

-- the record that stands in where there is none: every call that asks questions 1 to 3 of it is refused by 1, `list_part` too
pub no_record_lem : {offers answered : Type 0} {refused_by : ℕ → Type 0} → Asked (view no_record) offers refused_by answered → refused_by 1
no_record_lem a = a.one (omega arith)

pub no_step : (b : ℕ) (x : Stepped) → StepPost no_record b x → (x.reader ≡ no_record) × (parts_of x.answer ≡ shown (refusal 1 0 0))
no_step b x p = no_record_lem p.asked

pub no_feed : (bs : List ℕ) (x : Fed) → FeedPost no_record bs x → Refuses 1 no_record x
no_feed bs x p = no_record_lem p.asked

pub no_feed_in_place : (a s : List ℕ) (x : InPlace) → InPlacePost no_record.head no_record.latest no_record.bytes a s x → Refuses 1 no_record (fed_of x a)
no_feed_in_place a s x p = no_record_lem (p.feeds refl).asked

pub no_question : (n v : ℕ) → Questions no_record n v → v ≡ 1
no_question n v q = q.one (omega arith)
