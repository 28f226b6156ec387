-- `encode` meets its contract: the words and their widths are those of the system's rows.
use Rattle.rows.specs.Layout.{joined, laid, total, short, packs, packed}
use Rattle.fields_49.specs.Fields.{data_of_gps, data_of_glonass}
use Rattle.fields_49.proofs.EphemerisFields.encode.Goals as goal

pub returns-in-Gps : goal.returns-in-Gps
unfolding data_of_gps joined laid total short packs packed
returns-in-Gps c = rw c.in-Gps.is (rw c.words_gps.ensures at c.encode.ensures)

pub returns-in-Glonass : goal.returns-in-Glonass
unfolding data_of_glonass joined laid total short packs packed
returns-in-Glonass c = rw c.in-Glonass.is (rw c.words_glonass.ensures at c.encode-in-Glonass.ensures)
