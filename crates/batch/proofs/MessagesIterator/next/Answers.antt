-- `next` meets its contract: the end, and what the first entry of the bytes that are left is.
use Rattle.std.proofs.Common.{None, ◌≡◌, ◌<◌, sym, ap, ◌∙◌, rules, [], refl}
use Rattle.refusals.specs.Numbers.{number}
use Rattle.refusals.proofs.NumberLaws.{positive}
use Rattle.batch.specs.Entries.{Header, header_of, wrong}
use Rattle.batch.specs.Entries.Contents.{refused}
use Rattle.batch.specs.Walks.{bytes_left, Gives}
use Rattle.batch.proofs.ContentsLaws.{at_end, at_refusal}
use Rattle.batch.proofs.WalkLaws.{first_taken}
use Rattle.batch.proofs.MessagesIterator.next.Goals as goal

pub returns-then-is_empty-clause-steps : goal.returns-then-is_empty-clause-steps
returns-then-is_empty-clause-steps c =
    let s = c.args.self.now in
    let z : bytes_left s ≡ 0 = search rules in
    let e = at_end s.rest.now z in
    let g : Gives s None s = (e, e, z, z) in g

pub returns-in-Ok-clause-steps : goal.returns-in-Ok-clause-steps
returns-in-Ok-clause-steps c =
    let g = first_taken c.args.self.now.rest.now c.in-Ok.message c.in-Ok.rest (search rules) c.in-Ok.ensures in (g.0, g.1, g.2, c.in-Ok.ensures)

pub returns-in-Ok-clause-goes : goal.returns-in-Ok-clause-goes
returns-in-Ok-clause-goes c =
    let n = (first_taken c.args.self.now.rest.now c.in-Ok.message c.in-Ok.rest (search rules) c.in-Ok.ensures).2 in search (rules, n)

pub returns-in-Err-clause-steps : goal.returns-in-Err-clause-steps
returns-in-Err-clause-steps c =
    let s = c.args.self.now.rest.now in
    let r = c.in-Err.refusal in
    let e : header_of s ≡ wrong (number r) = c.in-Err.ensures in
    let v = ap (λ (h : Header). h.refusal) e in
    let l : 0 < bytes_left c.args.self.now = search rules in
    (at_refusal s l (λ z. positive r (sym v ∙ z)) ∙ ap refused v, at_end [] refl, l, e, refl)
