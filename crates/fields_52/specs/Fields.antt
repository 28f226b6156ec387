-- Document 01, 52h: n entries of seven bytes, n up to 75: system, number, INT8S carrier, elevation, INT16U azimuth, signal.
use Rattle.std.specs.Prelude.{cond, List, [], ◌∷◌, ℕ, ◌/◌, ◌%◌, min, leb, pos, length, Result}
use Rattle.numbers.specs.Number.{number_at}
use Rattle.numbers.specs.Signed.{int8, unsigned}
use Rattle.octets.specs.Bytes.{byte}
use Rattle.kinds.specs.Kinds.{content}
use Rattle.encoding.specs.Encoding.{decoded_as}
use Rattle.encoding.specs.Entries.{Series, entries_of, entries_data}
use Rattle.fields_52.specs.declared.Entry.{Entry}
use Rattle.fields_52.specs.declared.Visible.{Visible}

abbrev pub entry_of : List ℕ → Entry
entry_of e = record {
  system = byte e 0;
  number = byte e 1;
  carrier = int8 (byte e 2);
  elevation = byte e 3;
  azimuth = number_at e 4 2;
  signal = byte e 6;
}

abbrev pub entry_data : Entry → List ℕ
entry_data e =
    e.system
    ∷ e.number
    ∷ unsigned 8 e.carrier
    ∷ e.elevation
    ∷ e.azimuth % 256
    ∷ e.azimuth / 256 % 256
    ∷ e.signal
    ∷ []

abbrev pub blank : Entry
blank = record { system = 0; number = 0; carrier = pos 0; elevation = 0; azimuth = 0; signal = 0 }

abbrev pub visibles : Series Entry
visibles = record { header = 0; width = 7; most = 75; blank = blank; entry_of = entry_of; entry_data = entry_data }

-- how many entries are read of any data, and which: all those of acceptable data, which has no more than 75 (`all_fields`,
-- proofs/EntryCount.antt)
abbrev pub count_of : List ℕ → ℕ
count_of d = min (length d / 7) 75

abbrev pub read_of : List ℕ → Visible
read_of d = record { n = count_of d; entries = entries_of visibles d (count_of d) }

-- the fields of data, as many entries as it holds
abbrev pub fields_of : List ℕ → Visible
fields_of d = record { n = length d / 7; entries = entries_of visibles d (length d / 7) }

abbrev pub data_of : Visible → List ℕ
data_of f = entries_data visibles f.entries f.n

-- what a decoding answers, by the data's refusal
abbrev pub decoded_of : List ℕ → Result Visible ℕ
decoded_of = decoded_as 0x52 read_of

-- fields are refused by 11 where they have more than 75 entries, else as their data is; and that is what their data is refused by
-- (`refusal_is`, proofs/EntryCount.antt)
unfoldable pub refusal_of : Visible → ℕ
refusal_of f = cond (leb f.n 75) (content 0x52 (data_of f)) 11
