-- `in_use::write` meets its contract: question 17, then what a delivery is.
use mathlib.Core.Path.{sym, ◌∙◌}
use Rattle.octets.specs.Delivery.{written_of, filled_of}
use Rattle.in_use.proofs.RefusalLaws.{refused_17, passes_17}
use Rattle.in_use.proofs.write.Goals as goal

pub returns-then-word-ne0 : goal.returns-then-word-ne0
returns-then-word-ne0 c = refused_17 _ _ c.if-word-ne0.true

pub returns : goal.returns
returns c =
    let b = c.args.buf.now in
    let v = sym (passes_17 _ c.if-word-ne0.false) in (
      c.deliver.ensures.0 ∙ (λ k. written_of (v k) (c.data_of-all.ensures k) b),
      c.deliver.ensures.1 ∙ (λ k. filled_of (v k) (c.data_of-all.ensures k) b),
    )
