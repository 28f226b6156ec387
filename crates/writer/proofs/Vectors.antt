-- The order of the writer's questions, and what it leaves, computed.
use mathlib.Core.List.{[], ◌∷◌}
use mathlib.Core.Path.{◌≡◌, refl}
use lib.ListN.{replicate}
use Rattle.stuffing.specs.Stuffing.{stuffed}
use Rattle.checksum.specs.Checksum.{shifted, shifted_by, after_byte, after_bytes, checksum}
use Rattle.octets.specs.Placing.{placed}
use Rattle.kinds.specs.Kinds.{table, row_in, allows, length_ok, content}
use Rattle.octets.specs.Delivery.{refused, accepted, written_of, filled_of}
use Rattle.writer.specs.Writing.{frame_written, frame_filled}

-- a call that several questions refuse has the number of the first
pub mode_first : frame_written 2 0x00 [] [] ≡ refused 1
unfolding written_of
mode_first = refl

pub content_next : (frame_written 0 0x00 [] [] ≡ refused 10) × (frame_written 1 0x26 (0 ∷ []) [] ≡ refused 11) × (frame_written 0 0x20 (2 ∷ 25 ∷ []) [] ≡ refused 12)
unfolding written_of table row_in allows length_ok content
content_next = (refl, refl, refl)

pub room_last : (frame_written 0 0x26 [] (replicate 3 0) ≡ refused 13) × (frame_written 1 0x26 [] (replicate 7 0) ≡ refused 13)
unfolding written_of table row_in allows length_ok content stuffed
room_last = (refl, refl)

pub lengths : (frame_written 0 0x26 [] (replicate 4 0) ≡ accepted 4) × (frame_written 1 0x26 [] (replicate 8 0) ≡ accepted 8)
unfolding written_of table row_in allows length_ok content stuffed
lengths = (refl, refl)

-- 26h in both modes, and the byte after it as it was
pub plain_frame : frame_filled 0 0x26 [] (replicate 5 9) ≡ 0x10 ∷ 0x26 ∷ 0x10 ∷ 0x03 ∷ 9 ∷ []
unfolding filled_of placed table row_in allows length_ok content stuffed
plain_frame = refl

pub summed_frame : frame_filled 1 0x26 [] (replicate 9 9) ≡ 0x10 ∷ 0x26 ∷ 0x10 ∷ 0xFF ∷ 0xA4 ∷ 0x44 ∷ 0x10 ∷ 0x03 ∷ 9 ∷ []
unfolding filled_of placed table row_in allows length_ok content stuffed shifted shifted_by after_byte after_bytes checksum
summed_frame = refl
