-- What the definitions say of bits at hand, computed.
use mathlib.Core.Path.{◌≡◌, refl}
use lib.IntN.{pos, negsuc}
use Rattle.numbers.specs.Signed.{signed, int8, int16}

-- the last of the lower half, the first of the upper half, and -1
pub signed_byte : (int8 0x7F ≡ pos 127) × (int8 0x80 ≡ negsuc 127) × (int8 0xFF ≡ negsuc 0)
unfolding signed
signed_byte = (refl, refl, refl)

pub signed_word : (int16 0x7FFF ≡ pos 32767) × (int16 0x8000 ≡ negsuc 32767) × (int16 0xFFFF ≡ negsuc 0)
unfolding signed
signed_word = (refl, refl, refl)
