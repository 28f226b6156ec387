-- `encode` meets its contract: the array is the triples' data, and `deliver` does the rest.
use Rattle.std.proofs.Common.{rules, ◌≡◌, refl, ap, ◌∙◌, ◌*◌, ℕ, List, length}
use lib.ListN.{replicate}
use Rattle.encoding.specs.Encoding.{encoded_of, encoded_into}
use Rattle.encoding.specs.Entries.{entries_data}
use Rattle.encoding.proofs.EntryLaws.{laid_all}
use Rattle.fields_47.specs.Fields.{uses, data_of}
use Rattle.fields_47.proofs.UsesFields.encode.Goals as goal

pub returns : goal.returns
returns c =
    let f = c.args.self in
    let b = c.args.buf.now in
    let long : length f.triples ≡ 56 = search rules in
    let all : c.lay_out.new.buf ≡ data_of f =
    c.lay_out.ensures.value.1
    ∙ laid_all uses (replicate 168 0) f.triples (λ _ _. refl) (ap (λ (n : ℕ). 3 * n) long)
    ∙ ap (entries_data uses f.triples) long in (
      c.deliver.ensures.0 ∙ ap (λ (d : List ℕ). encoded_of 0x47 d b) all,
      c.deliver.ensures.1 ∙ ap (λ (d : List ℕ). encoded_into 0x47 d b) all,
    )
