-- Counts that 23h does not allow, refused by 11 through the data's own length.
use mathlib.Core.Path.{◌≡◌, refl, ap}
use mathlib.Core.List.{List}
use Prim.Native.Nat.{ℕ, zero, suc}
use native.Mathlib.Omega.{arith}
use lib.ListN.{take}
use lib.Seq.{take_all}
use Rattle.numbers.specs.Number.{bytes_of}
use Rattle.kinds.specs.Kinds.{table, row_in, allows, length_ok, content}
use Rattle.octets.specs.Delivery.{refused}
use Rattle.octets.proofs.DeliveryLaws.{refused_by_lem}
use Rattle.encoding.specs.Encoding.{encoded_of, encoded_into}
use Rattle.rows.specs.Layout.{Row, joined}
use Rattle.fields_23.specs.Fields.{all_rows, data_of}
use Rattle.fields_23.specs.declared.Zone.{Zone}

by_length : (f : Zone) (n : ℕ) → (n ≡ 0 → ⊥) → (n ≡ 2 → ⊥) → content 0x23 (joined (take n (all_rows f))) ≡ 11
unfolding content table row_in length_ok allows joined bytes_of
by_length f zero n m = absurd (n refl)
by_length f (suc zero) n m = refl
by_length f (suc (suc zero)) n m = absurd (m refl)
by_length f (suc (suc (suc k))) n m = ap (λ (l : List Row). content 0x23 (joined l)) (take_all (suc (suc (suc k))) (all_rows f) (omega arith))

pub count_23 : (f : Zone) (b : List ℕ) → (f.count ≡ 0 → ⊥) → (f.count ≡ 2 → ⊥)
    → (encoded_of 0x23 (data_of f) b ≡ refused 11) × (encoded_into 0x23 (data_of f) b ≡ b)
unfolding data_of
count_23 f b n m = refused_by_lem (content 0x23 (data_of f)) (data_of f) b 11 (by_length f f.count n m) (λ z. omega arith)
