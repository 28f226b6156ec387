-- `fill` meets its contract. The loop's invariant: placing the words still to go is placing all of them.
use mathlib.Core.Path.{◌≡◌, sym, ap, ◌∙◌}
use Prim.Native.Nat.{◌+◌, ◌≤◌, ◌<◌}
use native.Mathlib.Omega.{arith}
use borrow.Author.Tests.{leb-true}
use lib.ListN.{length, get_or, take, length-append}
use lib.Seq.{length-take-le}
use borrow.Author.Rules.{rules}
use Rattle.std.proofs.lemmas.Slice.Zip.{zip_turn, zip_end}
use Rattle.numbers.specs.Number.{bytes_of}
use Rattle.octets.specs.Placing.{placed}
use Rattle.rows.proofs.RowLaws.{low_bytes, left_width, left_next, left_none}
use Rattle.rows.proofs.fill.Goals as goal
use Rattle.rows.proofs.fill.Goals.{In-Some}

-- the width and the word at hand are those at one index
pair : (c : In-Some)
    → let i = length c.loop-n.yielded in
    (i < length c.args.widths.now) × (c.in-Some.n.now ≡ get_or c.args.widths.now i 0) × (c.in-Some.x.now ≡ get_or c.args.words.now i 0)
pair c =
    let t = zip_turn c.args.widths.now c.args.words.now c.loop-n.yielded _ _ c.next.new.self _ (search rules) (search rules) c.loop-n.yielded_by _ c.in-Some.is c.next.ensures.steps in
    (t.0, t.2 0, t.3 0)

-- it fits a u64, and its bytes are within the buffer
width : (c : In-Some) → (c.in-Some.n.now ≤ 8) × (c.loop-n.at + c.in-Some.n.now ≤ length c.loop-n.out)
width c =
    let p = pair c in
    let w = left_width _ _ _ _ _ _ c.loop-n.invariant p.0 in
    let short : c.in-Some.n.now ≤ 8 = rw p.1 (leb-true _ 8 w.0) in
    (short, rw p.1 w.1)

pub slice_bounds-put-end : goal.slice_bounds-put-end
slice_bounds-put-end c = let short = (width (goal.at.slice_bounds-put-end c).In-Some).0 in rw c.to_le_bytes.ensures short

pub slice_bounds-put-end-in-loop-n : goal.slice_bounds-put-end-in-loop-n
slice_bounds-put-end-in-loop-n c =
    let short = (width (goal.at.slice_bounds-put-end-in-loop-n c).In-Some).0 in
    sym (length-take-le _ _ (rw c.to_le_bytes.ensures short))

pub overflow_add-at : goal.overflow_add-at
overflow_add-at c = omega (arith, (width (goal.at.overflow_add-at c).In-Some).1)

pub loop-n-preserved : goal.loop-n-preserved
loop-n-preserved c =
    let at_it = (goal.at.loop-n-preserved c).In-Some in
    let p = pair at_it in
    let i = length c.loop-n.yielded in
    let bytes : take c.in-Some.n.now c.to_le_bytes.result ≡ bytes_of (get_or c.args.widths.now i 0) (get_or c.args.words.now i 0) =
    ap (take c.in-Some.n.now) c.to_le_bytes.ensures ∙ low_bytes _ _ (width at_it).0 ∙ (λ k. bytes_of (p.1 k) (p.2 k)) in
    let more = left_next _ _ _ _ _ _ c.loop-n.invariant p.0 c.requires.0 in
    rw (c.put.ensures.1 ∙ ap (placed c.loop-n.out c.loop-n.at) bytes, p.1, length-append) more

pub returns : goal.returns
returns c =
    let e = zip_end c.args.widths.now c.args.words.now c.loop-n.yielded _ _ c.next.new.self _ (search rules) (search rules) c.loop-n.yielded_by c.in-None.is c.next.ensures.steps in
    left_none _ _ _ _ _ _ c.loop-n.invariant (e ∙ omega (arith, c.requires.0)) c.requires.0 c.requires.1
