-- `put_decimal` meets its contract: the library's digits are the number's.
use mathlib.Core.Path.{◌≡◌, ap, ◌∙◌}
use Prim.Native.Nat.{◌+◌}
use native.Mathlib.Omega.{arith}
use lib.ListN.{length}
use Rattle.octets.specs.Placing.{placed}
use Rattle.listing.specs.Text.{decimal}
use Rattle.listing.proofs.DecimalLaws.{library_decimal_is}
use Rattle.listing.proofs.put_decimal.Goals as goal

pub returns : goal.returns
returns c =
    let a = c.args in
    let e : c.as_bytes-text.result.now ≡ decimal a.n =
    c.as_bytes-text.ensures.value ∙ c.format.ensures.text ∙ library_decimal_is a.n (omega arith) in
    (ap (λ s. a.at + length s) e, c.put.ensures.1 ∙ ap (placed a.buf.now a.at) e)
