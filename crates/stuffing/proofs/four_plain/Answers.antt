-- `stuffing::four_plain` meets its contract.
use Rattle.std.proofs.Common.{false, ◌&&◌, List, ◌≡◌, ℕ, ◌+◌, ◌≤◌, ◌<◌, arith, le-leb, length, get_or}
use borrow.Author.Tests.{lt-leb}
use Rattle.std.proofs.lemmas.Grind.{common_steps}
use Rattle.stuffing.specs.Stuffing.{other, four_plain}
use Rattle.stuffing.proofs.four_plain.Goals as goal

short : (s : List ℕ) (i : ℕ) → length s < i + 4 → false ≡ four_plain s i
unfolding four_plain
short s i l = rw (lt-leb (i + 4) (length s) l)

long : (s : List ℕ) (i : ℕ) → i + 4 ≤ length s
    → (((other (get_or s i 0) && other (get_or s (i + 1) 0)) && other (get_or s (i + 2) 0)) && other (get_or s (i + 3) 0)) ≡ four_plain s i
unfolding four_plain
long s i l = rw (le-leb (i + 4) (length s) l)

pub returns-then-s-lt4 : goal.returns-then-s-lt4
returns-then-s-lt4 c = short c.args.s.now c.args.at (grind (arith, common_steps))

pub returns : goal.returns
returns c =
    let x = c.args in
    long x.s.now x.at (omega arith)
