-- `encode_one_byte` meets its contract: by the family, by the count, then as `deliver` has it.
use Rattle.std.proofs.lemmas.Grind.{common_steps}
use Rattle.std.proofs.Common.{true, false, ◌≡◌, sym, ◌∙◌, ◌<◌, arith, le-leb}
use borrow.Author.Tests.{lt-leb}
use Rattle.octets.proofs.DeliveryLaws.{refused_by_lem}
use Rattle.fields_byte.specs.Fields.{one_byte_kind, data_of, refusal_of}
use Rattle.fields_byte.proofs.encode_one_byte.Goals as goal
use Rattle.fields_byte.proofs.encode_one_byte.Goals.{Else-not-one_byte_kind, Then-not-one_byte_kind}

outside : (c : Then-not-one_byte_kind) → one_byte_kind c.args.id ≡ false
outside c = let k = c.one_byte_kind in sym k.ensures ∙ c.if-not-one_byte_kind.true

inside : (c : Else-not-one_byte_kind) → one_byte_kind c.args.id ≡ true
inside c = let k = c.one_byte_kind in sym k.ensures ∙ c.if-not-one_byte_kind.false

pub returns-then-not-one_byte_kind : goal.returns-then-not-one_byte_kind
unfolding refusal_of
returns-then-not-one_byte_kind c =
    let a = c.args in
    let r = refused_by_lem (refusal_of a.id a.f) (data_of a.f) a.buf.now 10 (rw (outside (goal.at.returns-then-not-one_byte_kind c).Then-not-one_byte_kind)) (λ z. omega arith) in
    (sym r.0, sym r.1)

pub returns-then-f-gt1 : goal.returns-then-f-gt1
unfolding refusal_of
returns-then-f-gt1 c =
    let a = c.args in
    let over : 1 < a.f.count = omega (arith, c.if-f-gt1.true) in
    let r = refused_by_lem (refusal_of a.id a.f) (data_of a.f) a.buf.now 11 (rw (inside (goal.at.returns-then-f-gt1 c).Else-not-one_byte_kind, lt-leb _ _ over)) (λ z. omega arith) in
    (sym r.0, sym r.1)

pub returns : goal.returns
unfolding refusal_of
returns c = grind (arith, common_steps, le-leb)
