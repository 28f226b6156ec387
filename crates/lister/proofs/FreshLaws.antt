-- A fresh reader: refused by 1, or one that questions 1 and 2 let pass.
use mathlib.Core.Bool.{Bool, true, false}
use mathlib.Core.List.{[]}
use mathlib.Core.Path.{◌≡◌, refl, sym, ap, ◌∙◌, subst⁻¹}
use Prim.Native.Nat.{ℕ}
use native.Mathlib.Omega.{arith}
use borrow.Author.Tests.{le-leb, lt-leb, leb-true, leb-false}
use lib.Dec.{leb}
use Rattle.std.specs.Prelude.{Some}
use Rattle.refusals.specs.declared.Refusal.{Refusal}
use Rattle.refusals.specs.Numbers.{number, why}
use Rattle.refusals.proofs.NumberLaws.{positive}
use Rattle.line.specs.Record.{Rec, Possible, Fresh as Begun, fresh}
use Rattle.line.specs.Record.Fresh.{made, refused}
use Rattle.line.proofs.Mirror.{mirror, is_possible}
use Rattle.record.specs.declared.Fresh.{Fresh}
use Rattle.record.specs.View.{view}
use Rattle.record.specs.Posts.{FreshPost}
use Rattle.lister.specs.Posts.{Good}

pub fresh_refused : (m : ℕ) (x : Fresh) → FreshPost m x → (why x.refusal ≡ 0 → ⊥) → (fresh m ≡ refused 1) × (why x.refusal ≡ 1)
fresh_refused m x q n = by (leb m 1) refl
  where
    by : (t : Bool) → leb m 1 ≡ t → (fresh m ≡ refused 1) × (why x.refusal ≡ 1)
    by true e = absurd (n (q.good (leb-true m 1 e)).0)
    by false e = let h = leb-false m 1 e in (rw (lt-leb m 1 h), q.bad h)

-- by the refusal that there is
pub fresh_refused_by : (m : ℕ) (x : Fresh) (r : Refusal) → FreshPost m x → x.refusal ≡ Some r → fresh m ≡ refused (number r)
fresh_refused_by m x r q e =
    let f = fresh_refused m x q (λ z. positive r (sym (ap why e) ∙ z)) in
    f.0 ∙ ap refused (sym f.1 ∙ ap why e)

-- the record that a fresh reader has
abbrev rec_of : Begun → Rec → Rec
rec_of (made r) d = r
rec_of (refused v) d = d

pub fresh_good : (m : ℕ) (x : Fresh) → FreshPost m x → why x.refusal ≡ 0 → (fresh m ≡ made (view x.reader)) × Good x.reader
fresh_good m x q z = by (leb m 1) refl
  where
    by : (t : Bool) → leb m 1 ≡ t → (fresh m ≡ made (view x.reader)) × Good x.reader
    by true e =
        let h = leb-true m 1 e in
        let f = (q.good h).1 in
        let begun : fresh m ≡ made (mirror m []) = rw (le-leb m 1 h) in
        let same : view x.reader ≡ mirror m [] = ap (λ (y : Begun). rec_of y (mirror m [])) (sym f ∙ begun) in
        (f, (omega (arith, ap (λ (v : Rec). v.mode) same), subst⁻¹ Possible same (is_possible m [])))
    by false e = absurd (let y : ⊥ = omega (arith, q.bad (leb-false m 1 e)) in y)
