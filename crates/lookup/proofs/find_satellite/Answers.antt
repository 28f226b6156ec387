-- `find_satellite` meets its contract: the first piece of seven bytes that begins with both.
use mathlib.Core.Path.{◌≡◌, sym, ap, ◌∙◌}
use mathlib.Core.Bool.{Bool, cond, ◌&&◌}
use mathlib.Core.List.{List}
use Prim.Native.Nat.{ℕ, ◌+◌, ◌*◌, ◌/◌}
use native.Mathlib.Omega.{arith}
use borrow.Author.Rules.{rules}
use borrow.Author.Tests.{tests}
use lib.Dec.{eqb}
use lib.ListN.{length, take, drop}
use Rattle.std.specs.Prelude.{Some, None, Ok, Err}
use Rattle.std.proofs.lemmas.Iterator.Search.{position_from_yields_List}
use Rattle.refusals.proofs.NumberLaws.{positive}
use Rattle.octets.specs.Bytes.{byte}
use Rattle.ranges.proofs.ChainLaws.{chunks_yield}
use Rattle.lookup.specs.Lookup.{has, found_in}
use Rattle.lookup.proofs.SearchLaws.{accepted, refused, searched}
use Rattle.lookup.proofs.find_satellite.Goals as goal
use Rattle.lookup.proofs.find_satellite.Goals.{After-position-first}

-- the test of an entry, as the code makes it of two bytes
abbrev has_both : ℕ → ℕ → List ℕ → Bool
has_both s n e = eqb (byte e 0) s && eqb (byte e 1) n

has_is : (d : List ℕ) (s n j : ℕ) → has d s n (0 + j) ≡ has_both s n (take 7 (drop (7 * j) d))
has_is d s n j = let z : 0 + 7 * (0 + j) ≡ 7 * j = omega arith in ap (λ a. has_both s n (take 7 (drop a d))) z

-- counted from 0
from_start : (t : Bool) (p : ℕ) → cond t (Some (0 + p)) None ≡ cond t (Some p) None
from_start t p = let z : 0 + p ≡ p = omega arith in ap (λ i. cond t (Some i) None) z

found_is : (c : After-position-first) → let a = c.args in found_in a.body.now a.system a.number ≡ Ok c.position-first.result
found_is c =
    let a = c.args in
    let d = a.body.now in
    let both = has_both a.system a.number in
    accepted d a.system a.number (sym c.in_ok-content.ensures)
    ∙ ap Ok (searched both (has d a.system a.number) 0 (length d / 7) d (has_is d a.system a.number)
    ∙ from_start _ _
    ∙ sym (position_from_yields_List both _ _ c.position-first.result c.position-first.ensures.ran (chunks_yield 7 d (omega arith) (cc) (cc)) (λ x b q k. search (rules, tests))))

pub returns-in_err-content : goal.returns-in_err-content
returns-in_err-content c =
    let r = c.in_err-content.field-0.0 in
    let e : c.from_residual.result ≡ Err r = search rules in
    rw e (sym (refused _ _ _ _ (sym c.in_err-content.ensures) (positive r)))

pub returns : goal.returns
returns c = sym (found_is (goal.at.returns c).After-position-first)
