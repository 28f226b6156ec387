-- `all_data` meets its contract: the header, and behind it the channels in the room that is left.
use mathlib.Core.Path.{◌≡◌, sym, ap, ◌∙◌}
use mathlib.Core.Bool.{true}
use mathlib.Core.List.{◌++◌}
use Prim.Native.Nat.{ℕ, ◌+◌, ◌*◌, ◌≤◌, ◌<◌}
use native.Mathlib.Omega.{arith}
use lib.ListN.{length, take}
use lib.Seq.{take-append-add, length-take-le}
use borrow.Author.Tests.{le-leb}
use Rattle.encoding.proofs.EntryLaws.{laid_back}
use Rattle.encoding.specs.Entries.{entries_data}
use Rattle.fields_f5.specs.Fields.{header_data, channels}
use Rattle.fields_f5.proofs.RoundTrips.{length_header}
use Rattle.fields_f5.proofs.all_data.Goals as goal

pub returns : goal.returns
returns c =
    let n = c.args.n in
    let es = c.args.entries.now in
    let h = c.args.h in
    let most : n < 33 = omega (arith, c.requires) in
    let all : length (take n es) ≡ n = length-take-le n es (omega (arith, c.told-entries)) in
    let room : 30 * n ≤ length c.split_at_mut-top.result.1.now = omega (arith, c.split_at_mut-top.ensures.back_len) in
    let laid : c.lay_out.result ≡ true = c.lay_out.ensures.value.0 ∙ le-leb (0 + 30 * length (take n es)) (length c.split_at_mut-top.result.1.now) (omega arith) in
    let top : c.copy_from_slice.new.self ≡ header_data h = c.copy_from_slice.ensures.after ∙ c.header_data.ensures in
    let w : length c.copy_from_slice.new.self ≡ 27 = ap length top ∙ length_header h in
    let back : take (30 * n) c.lay_out.new.buf ≡ entries_data channels es n =
    ap (take (30 * n)) c.lay_out.ensures.value.1 ∙ laid_back channels c.split_at_mut-top.result.1.now es n (omega (arith, c.told-entries)) (c.lay_out.ensures.long laid) room in
    ap (λ (k : ℕ). take (k + 30 * n) (c.copy_from_slice.new.self ++ c.lay_out.new.buf)) (sym w)
    ∙ take-append-add c.copy_from_slice.new.self c.lay_out.new.buf (30 * n)
    ∙ (λ k. top k ++ back k)
