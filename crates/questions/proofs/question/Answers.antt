-- `record::question` meets its contract: questions 1 to 3, one after the other.
use Rattle.std.proofs.Common.{◌≡◌, refl, sym, ap, ◌∙◌, not, ℕ, ◌≤◌, ◌<◌, arith, rules, length}
use Rattle.line.specs.Record.{limit}
use Rattle.latest.proofs.Deciding.{decided_yes, decided_no}
use Rattle.record.specs.View.{record_of}
use Rattle.questions.specs.Question.{Valid, Questions}
use Rattle.record.specs.declared.Reader.{Reader}
use Rattle.questions.proofs.Asking.{possible_low, possible_open, plausible_of, held_of}
use Rattle.questions.proofs.question.Goals as goal
use Rattle.questions.proofs.question.Goals.{Joined-h-ge-F, Start, then-h-ge-F+else-h-pending_of, else-h-ge-F}

-- each way to answer
module _ (r : Reader) (n : ℕ) where
  refused_2 : r.head.mode ≤ 1 → (Valid r → ⊥) → Questions r n 2
  refused_2 h f =
      record {
        one = λ z. absurd (let w : ⊥ = omega arith in w);
        two = λ z g. refl;
        three = λ z g. absurd (f g);
        rest = λ z g. absurd (f g);
        mode = λ e. absurd (let w : ⊥ = omega arith in w);
        valid = λ e. absurd (let w : ⊥ = omega arith in w);
        room = λ e. absurd (let w : ⊥ = omega arith in w);
      }

  refused_3 : r.head.mode ≤ 1 → Valid r → 0 < n → limit ≤ r.head.fed → Questions r n 3
  refused_3 h v o l =
      record {
        one = λ z. absurd (let w : ⊥ = omega arith in w);
        two = λ z g. absurd (g v);
        three = λ z g p q. refl;
        rest = λ z g p. absurd (let w : ⊥ = omega (arith, p o) in w);
        mode = λ e. absurd (let w : ⊥ = omega arith in w);
        valid = λ e. absurd (let w : ⊥ = omega arith in w);
        room = λ e. absurd (let w : ⊥ = omega arith in w);
      }

  all_yes : r.head.mode ≤ 1 → Valid r → (0 < n → r.head.fed < limit) → Questions r n 0
  all_yes h v o =
      record {
        one = λ z. absurd (let w : ⊥ = omega arith in w);
        two = λ z g. absurd (g v);
        three = λ z g p q. absurd (let w : ⊥ = omega (arith, o p) in w);
        rest = λ z g p. refl;
        mode = λ e. h;
        valid = λ e. v;
        room = λ e. o;
      }

abbrev of : Start → Reader
of s = record_of s.args.h s.args.l s.args.d.now

-- question 2 is yes, whether a frame is open or not
valid : (q : Joined-h-ge-F) → Valid (record_of q.args.h q.args.l q.args.d.now)
valid q =
    let r = record_of q.args.h q.args.l q.args.d.now in
    let p = decided_yes q.plausible.result q.plausible.ensures (ap not q.if-not-plausible.false) in
    let l : length q.args.d.now ≡ 1024 = q.if-d-ne-CAPACITY.false in
    elim q.if-h-ge-F.branch [
      | then-h-ge-F+else-h-pending_of w ↦ record { whole = l; possible = possible_open r p w.if-h-ge-F.true (w.if-h-pending_of.false ∙ w.pending_of.ensures) l (search rules) (search rules) }
      | else-h-ge-F w ↦ record { whole = l; possible = possible_low r p w.if-h-ge-F.false (search rules) (search rules) }
    ]

pub returns-then-not-plausible : goal.returns-then-not-plausible
returns-then-not-plausible c =
    refused_2 (of (goal.at.returns-then-not-plausible c).Start) _ (omega (arith, c.if-h-ge2.false))
    (λ v. decided_no c.plausible.result c.plausible.ensures (ap not c.if-not-plausible.true) (plausible_of (of (goal.at.returns-then-not-plausible c).Start) v.possible))

pub returns-then-h-pending_of : goal.returns-then-h-pending_of
returns-then-h-pending_of c =
    refused_2 (of (goal.at.returns-then-h-pending_of c).Start) _ (omega (arith, c.if-h-ge2.false))
    (λ v. c.if-h-pending_of.true (held_of (of (goal.at.returns-then-h-pending_of c).Start) v.possible c.if-h-ge-F.true v.whole ∙ sym c.pending_of.ensures))

pub returns-then-n-gt0 : goal.returns-then-n-gt0
returns-then-n-gt0 c =
    refused_3 (of (goal.at.returns-then-n-gt0 c).Start) _ (omega (arith, c.if-h-ge2.false)) (valid (goal.at.returns-then-n-gt0 c).Joined-h-ge-F) (omega (arith, c.if-n-gt0.true)) (omega (arith, c.if-h-ge-LIMIT.true))

pub returns-else-n-gt0 : goal.returns-else-n-gt0
returns-else-n-gt0 c =
    all_yes (of (goal.at.returns-else-n-gt0 c).Start) _ (omega (arith, c.if-h-ge2.false)) (valid (goal.at.returns-else-n-gt0 c).Joined-h-ge-F) (λ o. absurd (let z : ⊥ = omega (arith, o, c.if-n-gt0.false) in z))

pub returns-else-h-ge-LIMIT : goal.returns-else-h-ge-LIMIT
returns-else-h-ge-LIMIT c =
    all_yes (of (goal.at.returns-else-h-ge-LIMIT c).Start) _ (omega (arith, c.if-h-ge2.false)) (valid (goal.at.returns-else-h-ge-LIMIT c).Joined-h-ge-F) (λ o. omega (arith, c.if-h-ge-LIMIT.false))
