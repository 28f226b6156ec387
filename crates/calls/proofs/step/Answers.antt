-- `calls::step` meets its contract: a slice of one byte is a step.
use Rattle.std.proofs.Common.{ap, ◌∙◌, arith}
use Rattle.record.specs.View.{view, shown}
use Rattle.calls.proofs.Single.{single}
use Rattle.calls.proofs.step.Goals as goal

pub returns : goal.returns
returns c =
    let x = c.args in
    let f = c.feed-f.ensures in
    record {
      asked =
          record {
            one = λ z. let w = f.asked.one z in (w.0, w.1);
            two = λ z n. let w = f.asked.two z n in (w.0, w.1);
            three = λ z p o l. let w = f.asked.three z p (omega arith) l in (w.0, w.1);
            rest = λ z p o.
                let w = f.asked.rest z p (λ y. o tt) in
                let s = single (view x.r) x.b (o tt) in
                (w.0 ∙ s.after, w.1 ∙ ap shown s.answer);
          };
      array = f.array;
    }
