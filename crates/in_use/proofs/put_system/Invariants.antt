-- `put_system` meets its contract. The loop's invariant: the triples of the satellites passed stand in the buffer.
use mathlib.Core.Path.{◌≡◌}
use Prim.Native.Nat.{◌+◌, ◌-◌, ◌≤◌}
use Rattle.octets.specs.Placing.{placed}
use Rattle.in_use.specs.InUse.{system_data}
use Rattle.in_use.proofs.put_system.Given as goal

abbrev pub invariant-loop-number : goal.invariant-loop-number
invariant-loop-number l = (l.number ≤ l.most + 1) × (l.all ≡ placed l.initial.all l.at (system_data l.word l.system (l.number - 1)))
