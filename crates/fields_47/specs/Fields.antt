-- Document 01, 47h: 56 triples system, number, use.
use Rattle.std.specs.Prelude.{List, [], ◌∷◌, ℕ, Result}
use Rattle.octets.specs.Bytes.{byte}
use Rattle.encoding.specs.Encoding.{decoded_as}
use Rattle.encoding.specs.Entries.{Series, entries_of, entries_data}
use Rattle.fields_47.specs.declared.Use.{Use}
use Rattle.fields_47.specs.declared.Uses.{Uses}

abbrev pub entry_of : List ℕ → Use
entry_of e = record { system = byte e 0; number = byte e 1; used = byte e 2 }

abbrev pub entry_data : Use → List ℕ
entry_data u = u.system ∷ u.number ∷ u.used ∷ []

abbrev pub blank : Use
blank = record { system = 0; number = 0; used = 0 }

abbrev pub uses : Series Use
uses = record { header = 0; width = 3; most = 56; blank = blank; entry_of = entry_of; entry_data = entry_data }

abbrev pub fields_of : List ℕ → Uses
fields_of d = record { triples = entries_of uses d 56 }

abbrev pub data_of : Uses → List ℕ
data_of f = entries_data uses f.triples 56

-- what a decoding answers, by the data's refusal
abbrev pub decoded_of : List ℕ → Result Uses ℕ
decoded_of = decoded_as 0x47 fields_of
