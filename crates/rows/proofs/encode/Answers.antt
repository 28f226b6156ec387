-- `encode` meets its contract: what is delivered is the data that the words make.
use mathlib.Core.Path.{◌≡◌, sym, ap, ◌∙◌}
use mathlib.Core.List.{List, ◌++◌}
use mathlib.Core.Bool.{true}
use Prim.Native.Nat.{ℕ, ◌≤◌}
use lib.ListN.{length, take}
use lib.Seq.{length-take-le}
use Rattle.encoding.specs.Encoding.{encoded_of, encoded_into}
use Rattle.rows.specs.Layout.{laid, total, short, packed}
use Rattle.rows.proofs.RowLaws.{packed_none, packed_some, read_back}
use Rattle.rows.proofs.encode.Goals as goal
use Rattle.rows.proofs.encode.Goals.{After-fill, In-Some}

-- the words pack, into as many bytes
some : (c : In-Some)
    → let x = c.args in
    let ns = x.widths.now in
    let xs = x.words.now in
    let n = c.in-Some.n in
    (packed ns xs ≡ laid ns xs) × (length ns ≤ length xs) × (short ns ≡ true) × (total ns ≡ n) × (n ≤ 130)
some c = packed_some c.args.widths.now c.args.words.now c.in-Some.n (sym c.in-Some.is ∙ c.measure.ensures)

-- what `fill` wrote, read back
back : (c : After-fill) (rest : List ℕ)
    → let x = c.args in
    let n = c.in-Some.n in
    let l = c.fill.new.out in
    (n ≤ length (l ++ rest)) × (take n (l ++ rest) ≡ laid x.widths.now x.words.now)
back c rest =
    let x = c.args in
    let s = packed_some x.widths.now x.words.now c.in-Some.n (sym c.in-Some.is ∙ c.measure.ensures) in
    read_back x.widths.now x.words.now _ rest _ s.1 s.3 c.fill.ensures

pub returns-in_default : goal.returns-in_default
returns-in_default c =
    let x = c.args in
    let e = packed_none x.widths.now x.words.now (sym c.in_default.is ∙ c.measure.ensures) in (
      c.deliver.ensures.0 ∙ ap (λ (t : List ℕ). encoded_of x.id t x.buf.now) (sym e),
      c.deliver.ensures.1 ∙ ap (λ (t : List ℕ). encoded_into x.id t x.buf.now) (sym e),
    )

pub slice_bounds-body-end : goal.slice_bounds-body-end
slice_bounds-body-end c = (some (goal.at.slice_bounds-body-end c).In-Some).4

pub slice_bounds-fill-end : goal.slice_bounds-fill-end
slice_bounds-fill-end c = sym (length-take-le _ _ (some (goal.at.slice_bounds-fill-end c).In-Some).4)

pub fill-requires : goal.fill-requires
fill-requires c =
    let s = some (goal.at.fill-requires c).In-Some in
    (s.1, s.3 ∙ sym (length-take-le _ _ s.4), s.2)

pub slice_bounds-body-end-2 : goal.slice_bounds-body-end-2
slice_bounds-body-end-2 c = (back (goal.at.slice_bounds-body-end-2 c).After-fill _).0

pub slice_bounds-deliver-end-2 : goal.slice_bounds-deliver-end-2
slice_bounds-deliver-end-2 c = sym (length-take-le _ _ (back (goal.at.slice_bounds-deliver-end-2 c).After-fill _).0)

pub returns : goal.returns
returns c =
    let x = c.args in
    let e = (back (goal.at.returns c).After-fill _).1 ∙ sym (some (goal.at.returns c).In-Some).0 in (
      c.deliver-2.ensures.0 ∙ ap (λ (t : List ℕ). encoded_of x.id t x.buf.now) e,
      c.deliver-2.ensures.1 ∙ ap (λ (t : List ℕ). encoded_into x.id t x.buf.now) e,
    )
