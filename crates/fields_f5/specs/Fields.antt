-- Document 02, Point 2, F5h: a header of 27 bytes (000, Table 59), then n channels of 30, n up to 32. No value is refused.
use Rattle.std.specs.Prelude.{cond, List, [], ◌∷◌, ◌++◌, ℕ, ◌-◌, ◌/◌, leb, length, take, drop, replicate, Result}
use Rattle.octets.specs.Bytes.{byte}
use Rattle.numbers.specs.Types.{int8s_at, int16u_at, fp64_at}
use Rattle.encoding.specs.Encoding.{decoded_as}
use Rattle.encoding.specs.Entries.{Series, entries_of, entries_data}
use Rattle.rows.specs.Layout.{Row, INT8S, INT16U, FP64, joined}
use Rattle.fields_f5.specs.declared.Header.{Header}
use Rattle.fields_f5.specs.declared.Channel.{Channel}
use Rattle.fields_f5.specs.declared.Measurements.{Measurements}

-- the header, by the table's offsets, and its rows in their order
unfoldable pub header_of : List ℕ → Header
header_of d = record {
  time = fp64_at d 0;
  week = int16u_at d 8;
  gps_shift = fp64_at d 10;
  glonass_shift = fp64_at d 18;
  correction = int8s_at d 26;
}

abbrev pub rows_of : Header → List Row
rows_of h = FP64 h.time ∷ INT16U h.week ∷ FP64 h.gps_shift ∷ FP64 h.glonass_shift ∷ INT8S h.correction ∷ []

unfoldable pub header_data : Header → List ℕ
header_data h = joined (rows_of h)

-- a channel: its first four bytes, and the other 26 as they are
abbrev pub entry_of : List ℕ → Channel
entry_of e = record { signal_type = byte e 0; number = byte e 1; carrier = byte e 2; level = byte e 3; rest = drop 4 e }

abbrev pub entry_data : Channel → List ℕ
entry_data c = c.signal_type ∷ c.number ∷ c.carrier ∷ c.level ∷ c.rest

abbrev pub blank : Channel
blank = record { signal_type = 0; number = 0; carrier = 0; level = 0; rest = replicate 26 0 }

abbrev pub channels : Series Channel
channels = record { header = 27; width = 30; most = 32; blank = blank; entry_of = entry_of; entry_data = entry_data }

-- how many channels data has
abbrev pub count_of : List ℕ → ℕ
count_of d = (length d - 27) / 30

abbrev pub fields_of : List ℕ → Measurements
fields_of d = record { header = header_of (take 27 d); n = count_of d; channels = entries_of channels d (count_of d) }

abbrev pub data_of : Measurements → List ℕ
data_of f = header_data f.header ++ entries_data channels f.channels f.n

-- what a decoding answers, by the data's refusal
abbrev pub decoded_of : List ℕ → Result Measurements ℕ
decoded_of = decoded_as 0xF5 fields_of

-- fields are refused by 11 where they have more than 32 channels, and by no other number
abbrev pub refusal_of : Measurements → ℕ
refusal_of f = cond (leb f.n 32) 0 11
