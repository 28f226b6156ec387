-- `result_byte` meets its contract: parts that there is room for do not overlap.
use Rattle.std.proofs.Common.{Bool, true, false, ◌≡◌, refl, ◌∙◌, ℕ, ◌+◌, ◌*◌, ◌%◌, ◌≤◌, arith, le-leb}
use lib.Bits.{bit_or, or_shifted}
use mir.Val.{bool_byte}
use Rattle.fields_43.specs.Fields.{bit_of}
use Rattle.fields_43.proofs.RoundTrips.{bit_le}
use Rattle.fields_43.proofs.result_byte.Goals as goal

bit_is : (b : Bool) → bool_byte b ≡ bit_of b
bit_is true = refl
bit_is false = refl

packed : (a g p l : ℕ) → a ≤ 3 → g ≤ 1 → p ≤ 1 → l ≤ 15
    → bit_or (bit_or (bit_or (a * 64 % 256) (g * 32 % 256)) (p * 16 % 256)) l ≡ a * 64 + g * 32 + p * 16 + l
packed a g p l ha hg hp hl =
    let e₁ : a * 64 % 256 ≡ a * 64 = omega arith in
    let e₂ : g * 32 % 256 ≡ g * 32 = omega arith in
    let e₃ : p * 16 % 256 ≡ p * 16 = omega arith in
    let f₁ : bit_or (a * 64) (g * 32) ≡ (a * 2 + g) * 32 = or_shifted a 6 (g * 32) (omega arith) ∙ omega arith in
    let f₂ : bit_or ((a * 2 + g) * 32) (p * 16) ≡ (a * 4 + g * 2 + p) * 16 = or_shifted (a * 2 + g) 5 (p * 16) (omega arith) ∙ omega arith in
    let f₃ : bit_or ((a * 4 + g * 2 + p) * 16) l ≡ (a * 4 + g * 2 + p) * 16 + l = or_shifted (a * 4 + g * 2 + p) 4 l (omega arith) in
    rw (e₁, e₂, e₃, f₁, f₂, f₃) (omega arith)

pub returns-then-f-le15 : goal.returns-then-f-le15
returns-then-f-le15 c =
    let f = c.args.f in
    rw (le-leb _ _ c.if-f-le3.true, le-leb _ _ c.if-f-le15.true, c.from.ensures ∙ bit_is f.glonass, c.from-then-f-le15.ensures ∙ bit_is f.gps)
    (packed f.antenna (bit_of f.glonass) (bit_of f.gps) f.low c.if-f-le3.true (bit_le f.glonass) (bit_le f.gps) c.if-f-le15.true)
