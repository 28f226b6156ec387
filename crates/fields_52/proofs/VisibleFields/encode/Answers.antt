-- `encode` meets its contract: the array's start is the entries' data, and `deliver` does the rest.
use mathlib.Core.Path.{◌≡◌, refl, sym, ap, ◌∙◌}
use mathlib.Core.List.{List}
use Prim.Native.Nat.{ℕ, ◌*◌, ◌≤◌, ◌<◌}
use native.Mathlib.Omega.{arith}
use borrow.Author.Tests.{lt-leb}
use Rattle.octets.proofs.DeliveryLaws.{refused_by_lem}
use lib.ListN.{take, replicate}
use Rattle.kinds.specs.Kinds.{content}
use Rattle.encoding.specs.Encoding.{encoded_of, encoded_into}
use Rattle.encoding.proofs.EntryLaws.{laid_back}
use Rattle.fields_52.specs.Fields.{visibles, data_of, refusal_of}
use Rattle.fields_52.proofs.EntryCount.{refusal_is}
use Rattle.fields_52.proofs.VisibleFields.encode.Goals as goal

pub returns-then-too_many : goal.returns-then-too_many
unfolding refusal_of
returns-then-too_many c =
    let f = c.args.self in
    let over : 75 < f.n = omega (arith, c.if-too_many.true) in
    let e : content 0x52 (data_of f) ≡ 11 = refusal_is f ∙ rw (lt-leb _ _ over) in
    let r = refused_by_lem (content 0x52 (data_of f)) (data_of f) c.args.buf.now 11 e (λ z. omega arith) in
    (sym r.0, sym r.1)

pub returns : goal.returns
returns c =
    let f = c.args.self in
    let b = c.args.buf.now in
    let room : f.n ≤ 75 = omega (arith, c.if-too_many.false) in
    let all : take (7 * f.n) c.lay_out.new.buf ≡ data_of f =
    ap (take (7 * f.n)) c.lay_out.ensures.value.1
    ∙ laid_back visibles (replicate 525 0) f.entries f.n (omega arith) (λ _ _. refl) (omega arith) in (
      c.deliver.ensures.0 ∙ ap (λ (d : List ℕ). encoded_of 0x52 d b) all,
      c.deliver.ensures.1 ∙ ap (λ (d : List ℕ). encoded_into 0x52 d b) all,
    )
