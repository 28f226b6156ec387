-- `decode_f5` meets its contract: by the refusal, and by what acceptable data has.
use Rattle.std.proofs.Common.{rules, ◌≡◌, sym, ap, ◌∙◌, ℕ, List, Ok, Err}
use Prim.Native.Nat.{◌+◌, ◌*◌, ◌/◌, ◌≤◌}
use native.Mathlib.Omega.{arith}
use borrow.Author.Tests.{eq-eqb}
use lib.ListN.{length, take, length-drop}
use Rattle.refusals.proofs.NumberLaws.{positive}
use Rattle.encoding.proofs.DecodedLaws.{refuses}
use Rattle.std.proofs.Math.Nat.{min-eq_left}
use Rattle.encoding.specs.Entries.{entries_of, entries_in}
use Rattle.encoding.proofs.ReadingLaws.{past_header}
use Rattle.fields_f5.specs.Fields.{header_of, count_of, channels}
use Rattle.fields_f5.proofs.ChannelCount.{count_f5}
use Rattle.fields_f5.proofs.decode_f5.Goals as goal
use Rattle.fields_f5.proofs.decode_f5.Goals.{In_ok-content}

-- past the refusal the data has a header and whole channels
counted : (c : In_ok-content) → let d = c.args.body.now in (27 + 30 * count_of d ≡ length d) × (count_of d ≤ 32)
counted c = count_f5 c.args.body.now (sym c.in_ok-content.ensures)

pub returns-in_err-content : goal.returns-in_err-content
returns-in_err-content c =
    let r = c.in_err-content.field-0.0 in
    let e : c.from_residual.result ≡ Err r = search rules in
    rw e (refuses Err _ _ _ c.in_err-content.ensures (positive r))

pub split_at-requires : goal.split_at-requires
split_at-requires c = omega (arith, (counted (goal.at.split_at-requires c).In_ok-content).0)

pub returns : goal.returns
returns c =
    let d = c.args.body.now in
    let few = (counted (goal.at.returns c).In_ok-content).1 in
    let n : length c.split_at.result.1.now / 30 ≡ count_of d = ap (λ (l : List ℕ). length l / 30) c.split_at.ensures.back ∙ ap (λ (k : ℕ). k / 30) (length-drop 27 d) in
    let top : c.read_header.result ≡ header_of (take 27 d) = c.read_header.ensures ∙ ap header_of c.split_at.ensures.front in
    let all : c.read_entries.result ≡ entries_of channels d (count_of d) =
    c.read_entries.ensures ∙ ap (entries_in channels 32) c.split_at.ensures.back ∙ past_header channels d (count_of d) (sym (min-eq_left few)) in
    rw (eq-eqb _ _ (sym c.in_ok-content.ensures)) (λ k. Ok (record { header = top k; n = n k; channels = all k }))
