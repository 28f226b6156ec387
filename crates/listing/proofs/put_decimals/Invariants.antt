-- `put_decimals` meets its contract. The loop's invariant: placing the numbers still to go is placing all of them.
use mathlib.Core.Path.{◌≡◌}
use Prim.Native.Nat.{◌+◌}
use lib.ListN.{length, drop}
use Rattle.octets.specs.Placing.{placed}
use Rattle.listing.specs.Text.{decimals}
use Rattle.listing.proofs.put_decimals.Given as goal

abbrev pub invariant-loop-n : goal.invariant-loop-n
invariant-loop-n l =
    (length l.buf ≡ length l.initial.buf)
    × (l.to + length (decimals (drop l.n-index l.numbers)) ≡ l.at + length (decimals l.numbers))
    × (placed l.buf l.to (decimals (drop l.n-index l.numbers)) ≡ placed l.initial.buf l.at (decimals l.numbers))
