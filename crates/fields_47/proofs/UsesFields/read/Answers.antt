-- `read` meets its contract: a call for each triple.
use Rattle.std.proofs.Common.{rules, ◌≡◌, sym, ◌∙◌, ℕ}
use mathlib.Core.List.{append-nil}
use Rattle.encoding.specs.Entries.{entry_slice, firsts}
use Rattle.fields_47.specs.Fields.{entry_of, blank, uses}
use Rattle.fields_47.specs.declared.Use.{Use}
use Rattle.encoding.proofs.MadeLaws.{made}
use Rattle.fields_47.proofs.UsesFields.read.Goals as goal

pub returns : goal.returns
returns c =
    let at : ℕ → Use = λ i. entry_of (entry_slice uses c.args.body.now i) in
    let all : c.from_fn.result ≡ firsts at 56 = made _ _ at (λ i y q k. search rules) _ blank 56 c.from_fn.ensures.items in
    λ k. record { triples = (all ∙ sym (append-nil (firsts at 56))) k }
