-- `read` meets its contract: each answer is by the tests that led to it.
use mathlib.Core.Bool.{not, ◌&&◌}
use mathlib.Core.List.{List}
use mathlib.Core.Path.{◌≡◌, sym, ◌∙◌}
use Prim.Native.Nat.{ℕ, ◌+◌, ◌-◌}
use native.Mathlib.Omega.{arith}
use borrow.Author.Tests.{eq-eqb, ne_eqb}
use lib.Dec.{ltb}
use lib.ListN.{length, take, drop}
use Rattle.octets.specs.Bytes.{byte}
use Rattle.kinds.specs.Kinds.{content}
use Rattle.journal.specs.Records.{restored}
use Rattle.journal.specs.Calls.{judged, marked, length_in, read_of}
use Rattle.journal.proofs.ReadingLaws.{read_end, read_unmarked, read_short, read_cut, read_record}
use Rattle.journal.proofs.read.Goals as goal
use Rattle.journal.proofs.read.Goals.{After-is_marked, After-restore}

-- the test of the mark, as it is defined
tested : (c : After-is_marked)
    → let s = c.args.bytes.now in
    ltb 1 (length s) && not (marked s) ≡ ltb 1 (length s) && not c.is_marked.result
tested c = let s = c.args.bytes.now in λ k. ltb 1 (length s) && not (sym c.is_marked.ensures k)

pub returns-then-n-eq0 : goal.returns-then-n-eq0
returns-then-n-eq0 c = (sym (read_end _ c.if-n-eq0.true), sym (eq-eqb _ 0 c.if-n-eq0.true))

pub returns-then-n-is_marked : goal.returns-then-n-is_marked
returns-then-n-is_marked c =
    (sym (read_unmarked _ c.if-n-eq0.false (tested (goal.at.returns-then-n-is_marked c).After-is_marked ∙ c.if-n-is_marked.true)), sym (ne_eqb _ 0 c.if-n-eq0.false))

pub returns-then-n-lt5 : goal.returns-then-n-lt5
returns-then-n-lt5 c =
    (sym (read_short _ c.if-n-eq0.false (tested (goal.at.returns-then-n-lt5 c).After-is_marked ∙ c.if-n-is_marked.false) c.if-n-lt5.true), sym (ne_eqb _ 0 c.if-n-eq0.false))

pub returns-then-n-length : goal.returns-then-n-length
returns-then-n-length c =
    (sym (read_cut _ c.if-n-eq0.false (tested (goal.at.returns-then-n-length c).After-is_marked ∙ c.if-n-is_marked.false) c.if-n-lt5.false (omega (arith, c.u16_at.ensures, c.from-length.ensures, c.if-n-lt5.false, c.if-n-length.true))), sym (ne_eqb _ 0 c.if-n-eq0.false))

-- the record's message is judged by its data
whole : (c : After-restore)
    → let s = c.args.bytes.now in
    let n = c.from-length.result in
    let d = restored (byte s 2) (take (5 + n - 5) (drop 5 s)) in
    judged (content (byte s 2) d) (byte s 2) d ≡ read_of s
whole c =
    let s : List ℕ = c.args.bytes.now in
    let n = c.from-length.result in
    let e : 5 + n - 5 ≡ length_in s = omega (arith, c.u16_at.ensures, c.from-length.ensures) in
    (λ k. judged (content (byte s 2) (restored (byte s 2) (take (e k) (drop 5 s)))) (byte s 2) (restored (byte s 2) (take (e k) (drop 5 s))))
    ∙ sym (read_record s c.if-n-eq0.false (tested (goal.at.After-restore c).After-is_marked ∙ c.if-n-is_marked.false) c.if-n-lt5.false (omega (arith, c.u16_at.ensures, c.from-length.ensures, c.if-n-lt5.false, c.if-n-length.false)))

pub returns : goal.returns
returns c =
    (c.restore.ensures.0 ∙ whole (goal.at.returns c).After-restore, c.restore.ensures.1 ∙ sym (ne_eqb _ 0 c.if-n-eq0.false))
