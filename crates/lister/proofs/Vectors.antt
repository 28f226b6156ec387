-- What the definitions say of bytes at hand, computed.
use mathlib.Core.List.{[], ◌∷◌, ◌++◌}
use mathlib.Core.Path.{◌≡◌, refl}
use Rattle.stuffing.specs.Stuffing.{stuffed}
use Rattle.checksum.specs.Checksum.{shifted, shifted_by, after_byte, after_bytes, checksum}
use Rattle.kinds.specs.Kinds.{table, row_in, allows, length_ok, content}
use Rattle.line.specs.Frame.{class_of}
use Rattle.line.specs.Record.{fresh}
use Rattle.line.proofs.Mirror.{mirror}
use Rattle.listing.specs.Text.{event_line, total_line}
use Rattle.lister.specs.Listing.{text}
use Rattle.lister.specs.Counting.{count_of}

-- the paper's example of listoff
pub paper_listing : text (mirror 0 []) (0x10 ∷ 0x26 ∷ 0x10 ∷ 0x03 ∷ 0xAA ∷ 0x10 ∷ 0x54 ∷ 0x10 ∷ 0x03 ∷ [])
    ≡ event_line 3 0x26 0 4 ++ (event_line 8 0x54 0 4 ++ total_line 9 8 0 1 0)
unfolding class_of stuffed table row_in allows length_ok content
paper_listing = refl

-- in mode 1: a message, a checksum that does not agree, and a frame that is still open
pub summed_listing : text (mirror 1 [])
    (0x10 ∷ 0x26 ∷ 0x10 ∷ 0xFF ∷ 0xA4 ∷ 0x44 ∷ 0x10 ∷ 0x03 ∷ 0x10 ∷ 0x26 ∷ 0x10 ∷ 0xFF ∷ 0xA5 ∷ 0x44 ∷ 0x10 ∷ 0x03 ∷ 0x10 ∷ 0x26 ∷ [])
    ≡ event_line 7 0x26 0 8 ++ (event_line 15 0x26 9 8 ++ total_line 18 8 8 0 2)
unfolding class_of stuffed shifted shifted_by after_byte after_bytes checksum table row_in allows length_ok content
summed_listing = refl

-- both are events
pub counted : count_of (fresh 1)
    (0x10 ∷ 0x26 ∷ 0x10 ∷ 0xFF ∷ 0xA4 ∷ 0x44 ∷ 0x10 ∷ 0x03 ∷ 0xAA ∷ 0x10 ∷ 0x26 ∷ 0x10 ∷ 0x03 ∷ 0x10 ∷ 0x26 ∷ [])
    ≡ 2
unfolding class_of stuffed shifted shifted_by after_byte after_bytes checksum table row_in allows length_ok content
counted = refl

pub counted_none : count_of (fresh 2) (0x10 ∷ 0x26 ∷ 0x10 ∷ 0x03 ∷ []) ≡ 0
counted_none = refl
