-- `checksum::after_slice` meets its contract. The loop's invariant: the bytes still to go take the register to the result.
use Rattle.std.proofs.Common.{◌≡◌, drop}
use Rattle.checksum.specs.Checksum.{after_bytes}
use Rattle.checksum.proofs.after_slice.Given as goal

abbrev pub invariant-loop-b : goal.invariant-loop-b
invariant-loop-b l = after_bytes l.r (drop l.b-index l.s) ≡ after_bytes l.reg l.s
