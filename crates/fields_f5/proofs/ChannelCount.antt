-- F5h is judged by its length alone: a header of 27 bytes and up to 32 channels of 30 are acceptable, anything else is refused by 11.
use mathlib.Core.Path.{◌≡◌, refl}
use mathlib.Core.Bool.{true, cond, ◌&&◌}
use mathlib.Core.List.{List}
use Prim.Native.Nat.{ℕ, ◌+◌, ◌*◌, ◌-◌, ◌%◌, ◌≤◌}
use native.Mathlib.Omega.{arith}
use borrow.Author.Tests.{eq-eqb, le-leb}
use lib.Dec.{eqb, leb}
use lib.ListN.{length}
use Rattle.ranges.specs.Ranges.{free}
use Rattle.kinds.specs.Kinds.{table, row_in, allows, length_ok, content}
use Rattle.encoding.proofs.EntryLaws.{entry_count}
use Rattle.fields_f5.specs.Fields.{count_of}

-- the one test
pub judged_f5 : (d : List ℕ) → content 0xF5 d ≡ cond (leb 27 (length d) && eqb ((length d - 27) % 30) 0 && leb (count_of d) 32 && true) 0 11
unfolding table row_in allows length_ok content
judged_f5 d = refl

pub count_f5 : (d : List ℕ) → content 0xF5 d ≡ 0 → (27 + 30 * count_of d ≡ length d) × (count_of d ≤ 32)
unfolding table row_in
count_f5 d h = let c = entry_count 0xF5 27 30 32 free d refl refl h in (omega arith, omega arith)

pub accepts_f5 : (d : List ℕ) (n : ℕ) → length d ≡ 27 + 30 * n → n ≤ 32 → content 0xF5 d ≡ 0
accepts_f5 d n e h =
    let k : count_of d ≤ 32 = omega arith in
    let a : leb 27 (length d) ≡ true = le-leb 27 (length d) (omega arith) in
    let z : eqb ((length d - 27) % 30) 0 ≡ true = eq-eqb ((length d - 27) % 30) 0 (omega arith) in
    rw (judged_f5 d, a, z, le-leb (count_of d) 32 k)
