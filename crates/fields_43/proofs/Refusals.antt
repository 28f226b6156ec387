-- Fields that 43h does not allow, refused by 12: an antenna of 2, and parts that the result byte has no room for.
use mathlib.Core.Path.{◌≡◌, refl, sym, ap, ◌∙◌}
use mathlib.Core.Bool.{Bool, true, false}
use mathlib.Core.List.{List}
use Prim.Native.Nat.{ℕ}
use native.Mathlib.Omega.{arith}
use Rattle.numbers.proofs.NumberLaws.{number_one}
use Rattle.ranges.specs.Ranges.{antenna}
use Rattle.octets.specs.Bytes.{byte}
use Rattle.kinds.specs.Kinds.{table, row_in, allows, length_ok, content}
use Rattle.octets.specs.Delivery.{refused}
use Rattle.octets.proofs.DeliveryLaws.{refused_by_lem}
use Rattle.encoding.specs.Encoding.{encoded_of, encoded_into}
use Rattle.rows.specs.Layout.{joined}
use Rattle.numbers.specs.Number.{bytes_of}
use Rattle.fields_43.specs.declared.Outcome.{Outcome}
use Rattle.fields_43.specs.Fields.{room, result_byte, data_of}
use Rattle.fields_43.proofs.RoundTrips.{result_kept, byte_written, no_room}

by_12 : (f : Outcome) (b : List ℕ) → content 0x43 (data_of f) ≡ 12 → (encoded_of 0x43 (data_of f) b ≡ refused 12) × (encoded_into 0x43 (data_of f) b ≡ b)
by_12 f b v = refused_by_lem (content 0x43 (data_of f)) (data_of f) b 12 v (λ z. omega arith)

pub no_room_43 : (f : Outcome) (b : List ℕ) → room f ≡ false → (encoded_of 0x43 (data_of f) b ≡ refused 12) × (encoded_into 0x43 (data_of f) b ≡ b)
no_room_43 f b e = by_12 f b (no_room f e)

pub antenna_43 : (f : Outcome) (b : List ℕ) → f.antenna ≡ 2 → (encoded_of 0x43 (data_of f) b ≡ refused 12) × (encoded_into 0x43 (data_of f) b ≡ b)
unfolding content table row_in length_ok allows data_of joined bytes_of
antenna_43 f b a = go (room f) refl
  where
    go : (t : Bool) → room f ≡ t → (encoded_of 0x43 (data_of f) b ≡ refused 12) × (encoded_into 0x43 (data_of f) b ≡ b)
    go true e =
        let p : byte (data_of f) 1 ≡ result_byte f = sym (number_one (data_of f) 1) ∙ byte_written f in
        let q : antenna (byte (data_of f) 1) ≡ 2 = ap antenna p ∙ ap (λ (o : Outcome). o.antenna) (result_kept f e) ∙ a in
        let v : content 0x43 (data_of f) ≡ 12 = rw q in
        by_12 f b v
    go false e = no_room_43 f b e
