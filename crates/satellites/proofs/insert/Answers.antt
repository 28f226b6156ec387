-- `insert` meets its contract: a bit below 64 is not lost.
use mathlib.Core.Path.{sym, ap}
use mathlib.Core.Bool.{Bool, cond}
use Prim.Native.Nat.{◌^◌}
use native.Mathlib.Nat.{one-mul, mod-eq_of_lt}
use borrow.Author.Tests.{lt-ltb}
use lib.Pow.{pow-lt}
use Rattle.satellites.specs.Sets.{with_bit}
use Rattle.satellites.proofs.insert.Goals as goal

pub returns : goal.returns
unfolding with_bit
returns c =
    let a = c.args in
    let l = c.if-place-ge64.false in
    rw (one-mul (2 ^ a.place), mod-eq_of_lt (pow-lt l))
    (sym (ap (λ (t : Bool). cond t (with_bit a.set a.place) a.set) (lt-ltb a.place 64 l)))
