-- A slice call that took a byte passed questions 1 to 3.
use mathlib.Core.Bool.{Bool, true, false}
use mathlib.Core.List.{List}
use mathlib.Core.Path.{◌≡◌, refl}
use Prim.Native.Nat.{ℕ, ◌≤◌, ◌<◌}
use native.Mathlib.Omega.{arith}
use borrow.Author.Tests.{leb-true, leb-false, ltb-true, ltb-false}
use lib.Dec.{leb, ltb}
use lib.ListN.{length}
use Rattle.line.specs.Record.{Possible, limit, walk}
use Rattle.line.proofs.SliceSteps.{possible_stable}
use Rattle.record.specs.View.{view, parts_of, shown}
use Rattle.record.specs.declared.Reader.{Reader}
use Rattle.record.specs.declared.Fed.{Fed}
use Rattle.record.specs.Posts.{FeedPost}

module _ (r : Reader) (l : List ℕ) (x : Fed) (q : FeedPost r l x) (h : 0 < x.taken) where
  pub low : r.head.mode ≤ 1
  low = by (leb r.head.mode 1) refl
    where
      by : (t : Bool) → leb r.head.mode 1 ≡ t → r.head.mode ≤ 1
      by true e = leb-true r.head.mode 1 e
      by false e = absurd (let z : ⊥ = omega (arith, (q.asked.one (leb-false r.head.mode 1 e)).2) in z)

  pub possible : Possible (view r)
  possible = possible_stable (view r) (λ f. let z : ⊥ = omega (arith, (q.asked.two low f).2) in z)

  pub room : 0 < length l → r.head.fed < limit
  room o = by (ltb r.head.fed limit) refl
    where
      by : (t : Bool) → ltb r.head.fed limit ≡ t → r.head.fed < limit
      by true e = ltb-true r.head.fed limit e
      by false e = absurd (let z : ⊥ = omega (arith, (q.asked.three low possible o (ltb-false r.head.fed limit e)).2) in z)

  pub passed : (view x.reader ≡ (walk (view r) l).after)
      × (parts_of x.answer ≡ shown (walk (view r) l).answer)
      × (x.taken ≡ (walk (view r) l).taken)
  passed = q.asked.rest low possible room
