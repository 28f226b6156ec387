-- What the definitions say of numbers at hand, computed.
use mathlib.Core.Path.{◌≡◌, refl}
use mathlib.Core.List.{[], ◌∷◌}
use Rattle.listing.specs.Text.{decimal, decimal_in, hexadecimal, decimals, event_line, total_line}

pub zero : decimal 0 ≡ 48 ∷ []
unfolding decimal decimal_in
zero = refl

-- "1024"
pub four_digits : decimal 1024 ≡ 49 ∷ 48 ∷ 50 ∷ 52 ∷ []
unfolding decimal decimal_in
four_digits = refl

-- "0A" and "F4"
pub two_hex : (hexadecimal 0x0A ≡ 48 ∷ 65 ∷ []) × (hexadecimal 0xF4 ≡ 70 ∷ 52 ∷ [])
two_hex = (refl, refl)

-- the paper's lines "3 26 0 4" and "total 9 8 0 1 0"
pub paper_event : event_line 3 0x26 0 4 ≡ 51 ∷ 32 ∷ 50 ∷ 54 ∷ 32 ∷ 48 ∷ 32 ∷ 52 ∷ 10 ∷ []
unfolding event_line decimals decimal decimal_in
paper_event = refl

pub paper_total : total_line 9 8 0 1 0
    ≡ 116 ∷ 111 ∷ 116 ∷ 97 ∷ 108 ∷ 32 ∷ 57 ∷ 32 ∷ 56 ∷ 32 ∷ 48 ∷ 32 ∷ 49 ∷ 32 ∷ 48 ∷ 10 ∷ []
unfolding total_line decimals decimal decimal_in
paper_total = refl
