-- A fresh reader is made, with one record, or refused.
use mathlib.Core.Path.{◌≡◌, sym, ◌∙◌, subst}
use native.Mathlib.Omega.{arith}
use borrow.Author.Rules.{rules}
use Rattle.refusals.specs.Numbers.{why}
use Rattle.line.specs.Record.{Rec}
use Rattle.line.specs.Record.Fresh.{made}
use Rattle.record.specs.View.{view}
use Rattle.lister.proofs.FreshLaws.{fresh_good}
use Rattle.streaming.specs.Posts.{InputPost}
use Rattle.streaming.proofs.ReadsLaws.{totalled}
use Rattle.streaming.proofs.list_input.Goals as goal
use Rattle.streaming.proofs.list_input.Goals.{In_default}

same : {a b : Rec} → made a ≡ made b → a ≡ b
same h = cc

-- none is refused
none : (c : In_default) → why c.fresh-f.result.refusal ≡ 0
none c = search rules

pub returns : goal.returns
returns c =
    let x = c.fresh-f.result in
    let z = none (goal.at.returns c).In_default in
    let w = fresh_good c.args.mode x c.fresh-f.ensures z in
    record {
      good = λ r e.
          let v : view x.reader ≡ r = same (sym w.0 ∙ e) in
          subst (λ (y : Rec). InputPost y c.print_total.result) v
          (totalled (view x.reader) c.list_reads-x.result c.print_total.result c.list_reads-x.ensures c.print_total.ensures);
      bad = λ h. absurd (let n : ⊥ = omega (arith, c.fresh-f.ensures.bad h, z) in n);
    }
