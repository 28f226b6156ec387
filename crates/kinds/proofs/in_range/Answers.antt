-- `in_range` meets its contract: each arm knows the row, and every other row is free.
use Rattle.std.proofs.lemmas.Grind.{common_steps}
use native.Mathlib.Omega.{arith}
use Rattle.std.proofs.Common.{ne_eqb}
use Rattle.kinds.specs.Kinds.{table, row_in}
use Rattle.kinds.proofs.RowLaws.{free_in_range}
use Rattle.kinds.proofs.in_range.Goals as goal

pub returns-in-31 : goal.returns-in-31
unfolding table row_in
returns-in-31 c = rw c.in-31.is c.in_1f.ensures

pub returns-in-32 : goal.returns-in-32
unfolding table row_in
returns-in-32 c = rw c.in-32.is c.in_20.ensures

pub returns-in-35 : goal.returns-in-35
unfolding table row_in
returns-in-35 c = rw c.in-35.is c.in_23.ensures

pub returns-in-67 : goal.returns-in-67
unfolding table row_in
returns-in-67 c = rw c.in-67.is c.in_43.ensures

pub returns-in-70 : goal.returns-in-70
unfolding table row_in
returns-in-70 c = rw c.in-70.is c.in_46.ensures

pub returns-in-71 : goal.returns-in-71
unfolding table row_in
returns-in-71 c = rw c.in-71.is c.in_47.ensures

pub returns-in-73 : goal.returns-in-73
unfolding table row_in
returns-in-73 c = rw c.in-73.is c.in_49.ensures

pub returns-in-235 : goal.returns-in-235
unfolding table row_in
returns-in-235 c = rw c.in-235.is c.in_eb.ensures

pub returns-in-82 : goal.returns-in-82
unfolding table row_in
returns-in-82 c = rw c.in-82.is c.in_52.ensures

pub returns-in_default : goal.returns-in_default
returns-in_default c = grind (arith, common_steps, free_in_range, ne_eqb)
