-- `restore` meets its contract: data too long for the array is refused as it is; other data stands in line order in the array, and is judged there.
use mathlib.Core.Bool.{true, false}
use mathlib.Core.List.{List}
use mathlib.Core.Path.{◌≡◌, refl, sym, ap, ◌∙◌}
use Prim.Native.Nat.{ℕ, ◌+◌, ◌≤◌, ◌<◌}
use native.Mathlib.Omega.{arith}
use borrow.Author.Tests.{leb-true, leb-false}
use borrow.Author.Rules.{rules}
use Rattle.std.specs.Prelude.{Err}
use Rattle.refusals.specs.declared.Refusal.{Refusal}
use Rattle.refusals.specs.Numbers.{number}
use Rattle.refusals.proofs.NumberLaws.{positive}
use lib.ListN.{length, take, replicate}
use Rattle.octets.specs.Placing.{placed}
use Rattle.octets.proofs.DeliveryLaws.{placed_back}
use Rattle.kinds.specs.Kinds.{content}
use Rattle.kinds.proofs.ContentLaws.{content_length}
use Rattle.journal.specs.Records.{restored}
use Rattle.journal.specs.Calls.{nothing, judged}
use Rattle.journal.proofs.RecordLaws.{length_restored}
use Rattle.journal.proofs.ReadingLaws.{judged_given, judged_refused, long_refused}
use Rattle.journal.proofs.restore.Goals as goal
use Rattle.journal.proofs.restore.Goals.{After-unstore-in_order, After-content, then-in_order, else-in_order}

-- the array afterwards: the data in line order, and zeros
in_order : (c : After-unstore-in_order)
    → let a = c.args in
    c.unstore-in_order.new.buf ≡ placed (replicate 1024 0) 0 (restored a.id a.body.now)
in_order c = c.unstore-in_order.ensures.1

-- where the array holds the data, what is judged is the data in line order
placed_data : (c : After-content) → c.unstore-in_order.result ≡ true
    → let a = c.args in
    content a.id (take (length a.body.now) c.unstore-in_order.new.buf) ≡ content a.id (restored a.id a.body.now)
placed_data c t =
    let a = c.args in
    let d : List ℕ = restored a.id a.body.now in
    let n : length d ≡ length a.body.now = length_restored a.id a.body.now in
    let l : 0 + length a.body.now ≤ 1024 = leb-true (0 + length a.body.now) 1024 (sym c.unstore-in_order.ensures.0 ∙ t) in
    (λ k. content a.id (take (sym n k) (in_order (goal.at.After-content c).After-unstore-in_order k)))
    ∙ ap (content a.id) (placed_back (replicate 1024 0) d (omega (arith, n)))

-- else the data is too long
long : (c : After-content) → c.unstore-in_order.result ≡ false → 1024 < length c.args.body.now
long c t =
    let n = length c.args.body.now in
    let l : 1024 < 0 + n = leb-false (0 + n) 1024 (sym c.unstore-in_order.ensures.0 ∙ t) in
    omega arith

-- what is judged is refused as the data in line order is, and is given only as that
refused_alike : (c : After-content) (r : Refusal) → number r ≡ content c.args.id c.if-in_order.data.now
    → let a = c.args in
    nothing (number r) ≡ judged (content a.id (restored a.id a.body.now)) a.id (restored a.id a.body.now)
refused_alike c r e =
    let a = c.args in
    let d : List ℕ = restored a.id a.body.now in
    elim c.if-in_order.branch [
      | then-in_order w ↦
          let q : number r ≡ content a.id d = e ∙ ap (λ (x : List ℕ). content a.id x) (search rules) ∙ placed_data c w.if-in_order.true in
          ap nothing q ∙ sym (judged_refused (content a.id d) a.id d (λ z. positive r (q ∙ z)))
      | else-in_order w ↦
          let q : number r ≡ content a.id a.body.now = e ∙ ap (λ (x : List ℕ). content a.id x) (search rules) in
          ap nothing q ∙ long_refused a.id a.body.now (long c w.if-in_order.false)
    ]

given_alike : (c : After-content) → 0 ≡ content c.args.id c.if-in_order.data.now
    → let a = c.args in 0 ≡ content a.id (restored a.id a.body.now)
given_alike c e =
    let a = c.args in
    elim c.if-in_order.branch [
      | then-in_order w ↦ e ∙ ap (λ (x : List ℕ). content a.id x) (search rules) ∙ placed_data c w.if-in_order.true
      | else-in_order w ↦
          let q : 0 ≡ content a.id a.body.now = e ∙ ap (λ (x : List ℕ). content a.id x) (search rules) in
          absurd (omega (arith, content_length a.id a.body.now (sym q), long c w.if-in_order.false))
    ]

pub returns-in_err-content : goal.returns-in_err-content
returns-in_err-content c =
    let r = c.in_err-content.field-0.0 in
    let g : c.from_residual.result ≡ Err r = search rules in
    rw g (refused_alike (goal.at.returns-in_err-content c).After-content r c.in_err-content.ensures, refl)

pub returns : goal.returns
returns c =
    let a = c.args in
    let d : List ℕ = restored a.id a.body.now in
    let n : length a.body.now ≡ length d = sym (length_restored a.id a.body.now) in
    let yes : 0 ≡ content a.id c.if-in_order.data.now = search rules in (
      (λ k. record { refusal = 0; id = a.id; length = n k; taken = 5 + n k; bytes = in_order (goal.at.returns c).After-unstore-in_order k })
          ∙ sym (judged_given (content a.id d) a.id d (sym (given_alike (goal.at.returns c).After-content yes))),
      refl,
    )
