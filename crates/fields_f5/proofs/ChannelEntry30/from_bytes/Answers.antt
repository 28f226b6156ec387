-- `from_bytes` meets its contract: the slice that is copied is all past the first four bytes.
use Rattle.std.proofs.Common.{rules, ◌≡◌, take, drop, length-drop, arith}
use lib.Seq.{take_all}
use Rattle.fields_f5.proofs.ChannelEntry30.from_bytes.Goals as goal

pub returns : goal.returns
returns c =
    let rest = drop 4 c.args.e.now in
    let whole : take 26 rest ≡ rest = take_all 26 rest (rw length-drop (omega (arith, c.told-e))) in
    search (rules, whole)
