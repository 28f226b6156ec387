-- `stuffing::count_dle` meets its contract. The loop's invariant: those counted, and those still to come, are all.
use Rattle.std.proofs.Common.{◌≡◌, ◌+◌, ◌≤◌, drop}
use Rattle.stuffing.specs.Stuffing.{dles}
use Rattle.stuffing.proofs.count_dle.Given as goal

abbrev pub invariant-loop-b : goal.invariant-loop-b
invariant-loop-b l = (l.n ≤ l.b-index) × (l.n + dles (drop l.b-index l.s) ≡ dles l.s)
