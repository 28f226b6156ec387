-- `hexlines::parse` meets its contract.
use mathlib.Core.Path.{◌≡◌, ap, ◌∙◌}
use Prim.Native.Nat.{ℕ, ◌≤◌, ◌<◌}
use native.Mathlib.Omega.{arith}
use lib.ListN.{length}
use Rattle.std.proofs.Common.{min}
use Rattle.std.specs.Slice.Iter.{chunks_rest}
use Rattle.hexlines.specs.Lines.{digit_of}
use Rattle.hexlines.proofs.ByteLaws.{byte_of, left_more, left_read, left_full}
use Rattle.hexlines.proofs.parse.Goals as goal

pub loop-pair-preserved : goal.loop-pair-preserved
loop-pair-preserved c =
    let l = c.loop-pair.invariant in
    let step = c.in-Some.ensures.steps in
    let p = c.in-Some.pair.now in
    let room : c.loop-pair.n < length c.args.out.now = omega (arith, l.1.same) in
    let two = step.1.1 ∙ ap (λ (k : ℕ). min k (length (chunks_rest c.loop-pair.pair-iterator))) l.0 in
    let byte : c.octet.result ≡ byte_of p = omega (arith, c.octet.ensures, ap digit_of c.byte_at-low.ensures) in
    (step.0 ∙ l.0, left_more _ _ _ _ _ p _ _ l.1 room step.1.0 two step.1.2 byte)

pub returns-then-out-n : goal.returns-then-out-n
returns-then-out-n c =
    let l = c.loop-pair.invariant.1 in
    let full : length c.args.out.now ≤ c.loop-pair.n = omega (arith, l.same) in
    let w = left_full _ _ _ _ _ l full in
    record { value = w.0; within = w.1 }

pub returns : goal.returns
returns c =
    let w = left_read _ _ _ _ _ c.loop-pair.invariant.1 c.in-None.ensures.steps.1.0 in
    record { value = w.0; within = w.1 }
