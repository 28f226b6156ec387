-- `header_data` meets its contract: its 27 bytes are an acceptable message, so that `encode` writes them.
use mathlib.Core.Path.{◌≡◌, ◌∙◌}
use mathlib.Core.List.{List}
use Prim.Native.Nat.{ℕ}
use native.Mathlib.Omega.{arith}
use lib.ListN.{replicate}
use Rattle.octets.proofs.DeliveryLaws.{writes}
use Rattle.octets.proofs.PlacingLaws.{placed_whole}
use Rattle.kinds.specs.Kinds.{content}
use Rattle.encoding.specs.Encoding.{encoded_into}
use Rattle.rows.specs.Layout.{joined, laid, total, short, packs, packed}
use Rattle.fields_f5.specs.Fields.{header_data}
use Rattle.fields_f5.proofs.ChannelCount.{accepts_f5}
use Rattle.fields_f5.proofs.RoundTrips.{length_header}
use Rattle.fields_f5.proofs.header_data.Goals as goal

abbrev zeros : List ℕ
zeros = replicate 27 0

pub returns : goal.returns
unfolding header_data joined laid total short packs packed
returns c =
    let top = c.encode.new.buf in
    let h = c.args.h in
    let n = length_header h in
    let e = writes (content 0xF5 (header_data h)) (header_data h) zeros (accepts_f5 (header_data h) 0 n (omega arith)) (omega arith) in
    let put : top ≡ encoded_into 0xF5 (header_data h) zeros = rw c.words_f5.ensures at c.encode.ensures.1 in
    put ∙ e.1 ∙ placed_whole zeros (header_data h) n
