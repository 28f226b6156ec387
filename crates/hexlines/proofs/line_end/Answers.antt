-- `hexlines::line_end` meets its contract: the rest from the place on is there or not, and has a line end or not.
use mathlib.Core.Path.{◌≡◌, sym, ap, ◌∙◌}
use Prim.Native.Nat.{◌≤◌}
use native.Mathlib.Omega.{arith}
use lib.ListN.{length, drop, drop_of_length-le}
use Rattle.std.proofs.Common.{inl, inr}
use Rattle.std.proofs.lemmas.Slice.{between_to_end}
use Rattle.hexlines.specs.Lines.{line_length}
use Rattle.hexlines.proofs.LineLaws.{line_nil, line_at, line_open}
use Rattle.hexlines.proofs.line_end.Goals as goal

pub returns-in_default-clause-value : goal.returns-in_default-clause-value
returns-in_default-clause-value c =
    let s = c.args.s.now in
    let h : length s ≤ c.args.from = elim c.in_default.ensures.lookup.0 [ inl k ↦ omega arith | inr k ↦ omega arith ] in
    let e : line_length (drop c.args.from s) ≡ 0 = ap line_length (drop_of_length-le s h) ∙ line_nil in
    omega arith

pub returns-in-Some-newline-clause-value : goal.returns-in-Some-newline-clause-value
returns-in-Some-newline-clause-value c =
    let s = c.args.s.now in
    let rest = c.in-Some.rest.now in
    let part = c.in-Some.ensures.lookup.0 in
    let e : rest ≡ drop c.args.from s = part.2 ∙ between_to_end s c.args.from (length s) (omega arith) in
    let l = line_at rest c.in-Some-newline.length (sym c.newline.ensures ∙ c.in-Some-newline.is) in
    omega (arith, l.0, ap line_length e)

pub returns-in-None-clause-value : goal.returns-in-None-clause-value
returns-in-None-clause-value c =
    let s = c.args.s.now in
    let rest = c.in-Some.rest.now in
    let part = c.in-Some.ensures.lookup.0 in
    let e : rest ≡ drop c.args.from s = part.2 ∙ between_to_end s c.args.from (length s) (omega arith) in
    omega (arith, part.3, line_open rest (sym c.newline.ensures ∙ c.in-None.is), ap line_length e)
