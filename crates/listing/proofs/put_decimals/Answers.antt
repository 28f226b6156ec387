-- `put_decimals` meets its contract. The loop's invariant: placing the numbers still to go is placing all of them.
use mathlib.Core.Path.{◌≡◌, sym, ap, ◌∙◌}
use mathlib.Core.List.{List, [], ◌∷◌, ◌++◌}
use Prim.Native.Nat.{ℕ, suc, ◌+◌, ◌≤◌, ◌<◌}
use native.Mathlib.Numerals.{add-one}
use native.Mathlib.Omega.{arith}
use lib.ListN.{length, drop, get_or, length-append, length-set}
use lib.Seq.{drop-cons, drop-length}
use Rattle.octets.specs.Placing.{placed}
use Rattle.octets.proofs.PlacingLaws.{placed_nil, placed_cons, placed_more, length_placed}
use Rattle.listing.specs.Text.{space, decimal, decimals}
use Rattle.listing.proofs.DecimalLaws.{decimals_nil, decimals_cons}
use Rattle.listing.proofs.put_decimals.Goals as goal

-- the number at i, and those after it
first : (s : List ℕ) (i : ℕ) → i < length s → decimals (drop i s) ≡ (space ∷ decimal (get_or s i 0)) ++ decimals (drop (i + 1) s)
first s i h = rw add-one (ap decimals (drop-cons s i 0 h) ∙ decimals_cons (get_or s i 0) (drop (suc i) s))

first_length : (s : List ℕ) (i : ℕ) → i < length s
    → length (decimals (drop i s)) ≡ length (space ∷ decimal (get_or s i 0)) + length (decimals (drop (i + 1) s))
first_length s i h = ap length (first s i h) ∙ length-append (space ∷ decimal (get_or s i 0)) (decimals (drop (i + 1) s))

-- nothing is left
none : (s : List ℕ) (i : ℕ) → i ≡ length s → decimals (drop i s) ≡ []
none s i e = ap (λ (k : ℕ). decimals (drop k s)) e ∙ ap decimals (drop-length s) ∙ decimals_nil

pub bounds-buf-to : goal.bounds-buf-to
bounds-buf-to c =
    let h : c.loop-n.n-index < length c.args.numbers.now = omega arith in
    omega (arith, first_length c.args.numbers.now c.loop-n.n-index h, c.loop-n.invariant.0, c.loop-n.invariant.1, c.requires)

pub put_decimal-to-requires : goal.put_decimal-to-requires
put_decimal-to-requires c =
    let h : c.loop-n.n-index < length c.args.numbers.now = omega arith in
    omega (arith, first_length c.args.numbers.now c.loop-n.n-index h, length-set c.loop-n.buf c.loop-n.to space, c.loop-n.invariant.0, c.loop-n.invariant.1, c.requires)

pub loop-n-preserved : goal.loop-n-preserved
loop-n-preserved c =
    let s = c.args.numbers.now in
    let i = c.loop-n.n-index in
    let to = c.loop-n.to in
    let buf = c.loop-n.buf in
    let d : List ℕ = decimal (get_or s i 0) in
    let b : List ℕ = space ∷ d in
    let rest : List ℕ = decimals (drop (i + 1) s) in
    let h : i < length s = omega arith in
    let n = first_length s i h in
    let room : to + length b + length rest ≤ length buf = omega (arith, n, c.loop-n.invariant.0, c.loop-n.invariant.1, c.requires) in
    let after : c.put_decimal-to.result ≡ to + length b = omega (arith, c.put_decimal-to.ensures.0) in
    let stored : c.put_decimal-to.new.buf ≡ placed buf to b = c.put_decimal-to.ensures.1 ∙ placed_cons buf to space d (omega arith) in (
      ap length stored ∙ length_placed buf to b ∙ c.loop-n.invariant.0,
      omega (arith, n, c.loop-n.invariant.1),
      (λ j. placed (stored j) (after j) rest)
          ∙ placed_more buf to b rest room
          ∙ ap (placed buf to) (sym (first s i h))
          ∙ c.loop-n.invariant.2,
    )

pub returns : goal.returns
returns c =
    let s = c.args.numbers.now in
    let e = none s c.loop-n.n-index (omega arith) in
    (omega (arith, ap length e, c.loop-n.invariant.1), sym (placed_nil c.loop-n.buf c.loop-n.to) ∙ (rw e at c.loop-n.invariant.2))
