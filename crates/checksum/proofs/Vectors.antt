-- Checksums of known messages, computed: of 26h and 01h without data, and of 21h with the one data byte 10h, which counts twice.
use mathlib.Core.Path.{◌≡◌, refl}
use mathlib.Core.List.{[], ◌∷◌}
use Rattle.stuffing.specs.Stuffing.{stuffed}
use Rattle.checksum.specs.Checksum.{shifted, shifted_by, after_byte, after_bytes, checksum, c1_of, c2_of}

pub of_26 : checksum 0x26 [] ≡ 0x44A4
unfolding shifted shifted_by after_byte after_bytes checksum stuffed
of_26 = refl

pub of_01 : checksum 0x01 [] ≡ 0x1021
unfolding shifted shifted_by after_byte after_bytes checksum stuffed
of_01 = refl

pub of_21_10 : checksum 0x21 (0x10 ∷ []) ≡ 0xA0B4
unfolding shifted shifted_by after_byte after_bytes checksum stuffed
of_21_10 = refl

-- the low byte is c1
pub bytes_of_26 : (c1_of 0x26 [] ≡ 0xA4) × (c2_of 0x26 [] ≡ 0x44)
unfolding shifted shifted_by after_byte after_bytes checksum stuffed
bytes_of_26 = (refl, refl)
