-- From the latest messages in memory to those that `line` sees, and to those once a message is given.
use Rattle.std.specs.Prelude.{cond, List, ℕ, eqb, length, Option as Held, Some, None}
use Rattle.std.proofs.Math.Option.{Option, none, some}
use Rattle.kinds.specs.Kinds.{length_of}
use Rattle.line.specs.Table.Event.{message}
use Rattle.line.specs.Record.{Kept, id_of, Fit, update}
use Rattle.line.specs.Record.Kept.{k_43, k_46, k_4a, k_4b, k_eb}
use Rattle.latest.specs.declared.Latest.{Latest}

-- the code's option as the paper's
abbrev pub perhaps : Held (List ℕ) → Option (List ℕ)
perhaps (Some d) = some d
perhaps None = none

abbrev pub latest_of : Latest → Kept → Option (List ℕ)
latest_of l k_43 = perhaps l.d43
latest_of l k_46 = perhaps l.d46
latest_of l k_4a = perhaps l.d4a
latest_of l k_4b = perhaps l.d4b
latest_of l k_eb = perhaps l.deb

-- each of them, if there is one, is acceptable; any 33 or 42 bytes are an acceptable 4Ah or 4Bh
pub record LatestOk (l : Latest) : Type 0 where
  pub ok_43 : Fit 0x43 (latest_of l k_43)
  pub ok_46 : Fit 0x46 (latest_of l k_46)
  pub ok_eb : Fit 0xEB (latest_of l k_eb)

-- a message with these data is given: the latest of its kind, unless the data are none that the kind can have
abbrev pub stored_of : ℕ → List ℕ → (Kept → Option (List ℕ)) → Kept → Option (List ℕ)
stored_of id d x i = cond (eqb (length d) (length_of (id_of i))) (update i (message id d 0) (x i)) (x i)
