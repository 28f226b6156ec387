-- A count that F4h does not allow, refused through the data's own length.
use mathlib.Core.Path.{◌≡◌}
use mathlib.Core.List.{List}
use native.Mathlib.Omega.{arith}
use Prim.Native.Nat.{ℕ}
use Rattle.kinds.specs.Kinds.{table, row_in, allows, length_ok, content}
use Rattle.octets.specs.Delivery.{refused, written_of, filled_of}
use Rattle.octets.proofs.DeliveryLaws.{refused_by_lem}
use Rattle.fields_byte.specs.declared.OneByte.{OneByte}
use Rattle.fields_byte.specs.Fields.{data_of, refusal_of}

-- F4h: no byte
no_byte_f4 : (f : OneByte) → f.count ≡ 0 → refusal_of 0xF4 f ≡ 11
unfolding refusal_of content table row_in length_ok allows
no_byte_f4 f c = rw c

pub count_f4 : (f : OneByte) (b : List ℕ) → f.count ≡ 0
    → (written_of (refusal_of 0xF4 f) (data_of f) b ≡ refused 11) × (filled_of (refusal_of 0xF4 f) (data_of f) b ≡ b)
count_f4 f b c = refused_by_lem (refusal_of 0xF4 f) (data_of f) b 11 (no_byte_f4 f c) (λ z. omega arith)
