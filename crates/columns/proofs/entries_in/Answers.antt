-- `entries_in` meets its contract: each answer is by the tests that led to it.
use Rattle.std.proofs.Common.{rules, ◌≡◌, sym, ap, ◌∙◌, ◌-◌, ◌/◌, ◌%◌, ◌≤◌, ◌<◌, arith, None}
use Rattle.columns.specs.Columns.{whole}
use Rattle.columns.proofs.ColumnLaws.{whole_of, whole_none, whole_short, whole_more}
use Rattle.columns.proofs.entries_in.Goals as goal
use Rattle.columns.proofs.entries_in.Goals.{In_ok-checked_rem}

-- past the tests there are bytes for the header, and a width
parts : (c : In_ok-checked_rem)
    → let a = c.args in
    (a.header ≤ a.len) × (1 ≤ a.width) × (c.in_ok-rest.rest ≡ a.len - a.header) × (c.in_ok-checked_rem.field-0 ≡ (a.len - a.header) % a.width)
parts c =
    let r = c.in_ok-checked_rem.ensures in
    let l : c.args.header ≤ c.args.len = search rules in
    let e : c.in_ok-rest.rest ≡ c.args.len - c.args.header = search rules in
    (l, omega (arith, r.0), e, r.1 ∙ ap (λ k. k % c.args.width) e)

pub returns-in_err-rest : goal.returns-in_err-rest
returns-in_err-rest c =
    let a = c.args in
    let g : c.from_residual.result ≡ None = search rules in
    let l : a.len < a.header = search rules in
    rw g (whole_short a.header a.width a.len l)

pub returns-in_err-checked_rem : goal.returns-in_err-checked_rem
returns-in_err-checked_rem c =
    let a = c.args in
    let g : c.from_residual-in_err-checked_rem.result ≡ None = search rules in
    let z : a.width ≡ 0 = search rules in
    rw g (ap (λ w. whole a.header w a.len) z ∙ whole_none a.header a.len)

pub returns-then-branch-ne0 : goal.returns-then-branch-ne0
returns-then-branch-ne0 c =
    let a = c.args in
    let p = parts (goal.at.returns-then-branch-ne0 c).In_ok-checked_rem in
    whole_more a.header a.width a.len p.0 p.1 (λ z. c.if-branch-ne0.true (p.3 ∙ z))

pub returns : goal.returns
returns c =
    let a = c.args in
    let p = parts (goal.at.returns c).In_ok-checked_rem in
    (whole_of a.header a.width a.len p.0 p.1 (sym p.3 ∙ c.if-branch-ne0.false), ap (λ k. k / a.width) p.2)
