-- `encode_f5` meets its contract: the array's start is the header's and the channels' data, and `deliver` does the rest.
use mathlib.Core.Path.{sym}
use Prim.Native.Nat.{◌<◌}
use native.Mathlib.Omega.{arith}
use borrow.Author.Tests.{lt-leb}
use Rattle.octets.proofs.DeliveryLaws.{refused_by_lem}
use Rattle.fields_f5.specs.Fields.{data_of, refusal_of}
use Rattle.fields_f5.proofs.encode_f5.Goals as goal

pub returns-then-too_many : goal.returns-then-too_many
returns-then-too_many c =
    let g = c.args in
    let over : 32 < g.f.n = omega (arith, c.if-too_many.true) in
    let r = refused_by_lem (refusal_of g.f) (data_of g.f) g.buf.now 11 (rw (lt-leb _ _ over)) (λ z. omega arith) in
    (sym r.0, sym r.1)
