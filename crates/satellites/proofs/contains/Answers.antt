-- `contains` meets its contract: a mask of one bit is the remainder by two, and past its end a word has no bit.
use mathlib.Core.Path.{sym, ap}
use Prim.Native.Nat.{ℕ}
use borrow.Author.Rules.{rules}
use lib.Dec.{eqb}
use Rattle.satellites.proofs.BitLaws.{bit_past}
use Rattle.satellites.proofs.contains.Goals as goal

pub returns-then-place-ge64 : goal.returns-then-place-ge64
returns-then-place-ge64 c = sym (ap (λ (x : ℕ). eqb x 1) (bit_past 64 c.args.set c.args.place (search rules) c.if-place-ge64.true))
