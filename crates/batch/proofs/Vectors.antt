-- Short lists, computed: the order of the refusals, and bytes and bits in both modes.
use mathlib.Core.List.{[], ◌∷◌}
use mathlib.Core.Path.{◌≡◌, refl}
use Rattle.stuffing.specs.Stuffing.{stuffed}
use Rattle.numbers.specs.Number.{number_of, number_at, bytes_of}
use Rattle.kinds.specs.Kinds.{table, row_in, allows, length_ok, content}
use Rattle.batch.specs.Entries.{list_bytes, header_of, contents_up_to, contents_of, list_of}
use Rattle.batch.specs.Entries.Contents.{entries, refused}
use Rattle.batch.specs.Times.{time_of, time_for}

-- none; 26h without data; 21h with 10h as its data, then 26h
pub lists : (list_of [] ≡ entries [])
    × (list_of (0x26 ∷ 0 ∷ 0 ∷ []) ≡ entries (record { id = 0x26; body = [] } ∷ []))
    × (list_of (0x21 ∷ 1 ∷ 0 ∷ 0x10 ∷ 0x26 ∷ 0 ∷ 0 ∷ [])
    ≡ entries (record { id = 0x21; body = 0x10 ∷ [] } ∷ record { id = 0x26; body = [] } ∷ []))
unfolding list_of contents_of contents_up_to header_of number_at number_of content table row_in allows length_ok
lists = (refl, refl, refl)

pub laid : list_bytes (record { id = 0x21; body = 0x10 ∷ [] } ∷ record { id = 0x26; body = [] } ∷ []) ≡ 0x21 ∷ 1 ∷ 0 ∷ 0x10 ∷ 0x26 ∷ 0 ∷ 0 ∷ []
unfolding list_bytes bytes_of
laid = refl

-- 19 of two bytes left, and of a byte too few before 10; then 10, 11 and 12; an entry's refusal before the next one's
pub refusals : (list_of (0x26 ∷ 0 ∷ []) ≡ refused 19)
    × (list_of (0x00 ∷ 1 ∷ 0 ∷ []) ≡ refused 19)
    × (list_of (0x00 ∷ 0 ∷ 0 ∷ []) ≡ refused 10)
    × (list_of (0x26 ∷ 1 ∷ 0 ∷ 7 ∷ []) ≡ refused 11)
    × (list_of (0x20 ∷ 2 ∷ 0 ∷ 2 ∷ 25 ∷ []) ≡ refused 12)
    × (list_of (0x00 ∷ 0 ∷ 0 ∷ 0x26 ∷ []) ≡ refused 10)
    × (list_of (0x26 ∷ 0 ∷ 0 ∷ 0x26 ∷ []) ≡ refused 19)
unfolding list_of contents_of contents_up_to header_of number_at number_of content table row_in allows length_ok
refusals = (refl, refl, refl, refl, refl, refl, refl)

-- 1 before all others; a refusal gives 0 for both numbers
pub times : (time_for 2 (0x00 ∷ []) ≡ time_of 1 0)
    × (time_for 1 (0x26 ∷ 0 ∷ 0 ∷ 0x00 ∷ []) ≡ record { refusal = 19; bytes = 0; bits = 0 })
    × (time_for 0 [] ≡ record { refusal = 0; bytes = 0; bits = 0 })
    × (time_for 0 (0x21 ∷ 1 ∷ 0 ∷ 0x10 ∷ 0x26 ∷ 0 ∷ 0 ∷ []) ≡ record { refusal = 0; bytes = 10; bits = 110 })
    × (time_for 1 (0x21 ∷ 1 ∷ 0 ∷ 0x10 ∷ 0x26 ∷ 0 ∷ 0 ∷ []) ≡ record { refusal = 0; bytes = 18; bits = 198 })
unfolding time_for list_of contents_of contents_up_to header_of number_at number_of content table row_in allows length_ok stuffed
times = (refl, refl, refl, refl, refl)
