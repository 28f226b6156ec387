-- `encode` meets its contract: the words and their widths are those of the rows.
use Rattle.rows.specs.Layout.{joined, laid, total, short, packs, packed}
use Rattle.fields_20.specs.Fields.{data_of}
use Rattle.fields_20.proofs.SatelliteFields.encode.Goals as goal

pub returns : goal.returns
unfolding data_of joined laid total short packs packed
returns c = rw c.words_of.ensures at c.encode.ensures
