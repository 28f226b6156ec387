-- `from_bytes` meets its contract: the azimuth is its two bytes' number.
use Rattle.std.proofs.Common.{rules, ◌≡◌}
use native.Mathlib.Omega.{arith}
use Rattle.numbers.specs.Number.{number_at}
use Rattle.fields_52.proofs.RoundTrips.{number_two}
use Rattle.fields_52.proofs.EntryEntry7.from_bytes.Goals as goal

pub returns : goal.returns
returns c =
    let e = c.args.e.now in
    let azimuth : c.from_le_bytes.result ≡ number_at e 4 2 = omega (arith, c.from_le_bytes.ensures, number_two e 4 (omega (arith, c.told-e))) in
    search (rules, azimuth)
