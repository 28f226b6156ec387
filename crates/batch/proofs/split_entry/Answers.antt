-- `split_entry` meets its contract: an entry is whole where its data are within the bytes.
use Rattle.std.proofs.Common.{◌≡◌, refl, ap, ◌∙◌, ◌+◌, ◌-◌, ◌≤◌, ◌<◌, length, take, drop, arith, rules}
use Rattle.std.proofs.lemmas.List.{drop-drop, take_rest}
use Rattle.numbers.specs.Number.{number_of}
use Rattle.batch.specs.Entries.{length_in}
use Rattle.batch.proofs.EntryLaws.{length_read}
use Rattle.batch.proofs.split_entry.Goals as goal
use Rattle.batch.proofs.split_entry.Goals.{After-from-n}

-- the length, as the code reads it
size : (c : After-from-n) → c.from-n.result ≡ length_in c.args.list.now
unfolding number_of
size c =
    let e = length_read c.args.list.now c.in-len3-up.len_at_least in
    omega (arith, c.from-n.ensures, c.from_le_bytes.ensures, e)

pub returns-in_default : goal.returns-in_default
returns-in_default c = omega (arith, c.in_default.len_below)

pub returns-in_default-split_at_checked : goal.returns-in_default-split_at_checked
returns-in_default-split_at_checked c =
    let s = c.args.list.now in
    let short : length s < 3 + c.from-n.result = search rules in
    omega (arith, size (goal.at.returns-in_default-split_at_checked c).After-from-n, short)

pub returns : goal.returns
returns c =
    let s = c.args.list.now in
    let z = size (goal.at.returns c).After-from-n in
    let t : take (length s - 3) (drop 3 s) ≡ drop 3 s = take_rest s 3 in
    let f : c.in-Some.data.now ≡ take c.from-n.result (drop 3 s) = search (rules, t) in
    let b : c.in-Some.rest.now ≡ drop c.from-n.result (drop 3 s) = search (rules, t) in
    let w : 3 + c.from-n.result ≤ length s = search rules in (
      omega (arith, w, z),
      refl,
      f ∙ ap (λ k. take k (drop 3 s)) z,
      b ∙ drop-drop c.from-n.result 3 s ∙ ap (λ k. drop (3 + k) s) z,
    )
