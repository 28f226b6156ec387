-- The round trips of 43h: the layout is a list of rows, and reading and writing rows are inverse; the result byte holds its parts.
use mathlib.Core.Path.{◌≡◌, refl, sym, ap, ◌∙◌}
use mathlib.Core.Bool.{Bool, true, false, cond, not, ◌&&◌, and-eq-true_iff}
use mathlib.Core.List.{List, [], ◌∷◌}
use Rattle.std.specs.Prelude.{Ok}
use Prim.Native.Nat.{ℕ, ◌+◌, ◌*◌, ◌/◌, ◌%◌, ◌≤◌, ◌<◌}
use native.Mathlib.Omega.{arith}
use borrow.Author.Tests.{eqb-true, eqb-false, le-leb, leb-true}
use lib.Dec.{eqb, leb}
use lib.ListN.{length}
use Rattle.numbers.specs.Number.{bytes_of}
use Rattle.numbers.specs.Types.{int8u_at}
use Rattle.numbers.proofs.NumberLaws.{number_one}
use Rattle.ranges.specs.Ranges.{all, antenna, in_43}
use Rattle.octets.specs.Bytes.{byte, Bytes}
use Rattle.ranges.proofs.CountLaws.{all_at}
use Rattle.kinds.specs.Kinds.{table, row_in, only, allows, length_ok, content}
use Rattle.encoding.specs.RoundTrip.{EncodeDecode, DecodeEncode}
use Rattle.encoding.proofs.AcceptedLaws.{accepted_parts, one_length_lem}
use Rattle.encoding.proofs.RoundTripLaws as laws
use Rattle.rows.specs.Layout.{INT8U, joined}
use Rattle.rows.proofs.RowLaws.{nat, read_rows, widths, read_joined, joined_read}
use Rattle.fields_43.specs.Fields.{result_of, bit_of, room, result_byte, fields_of, rows_of, data_of, decoded_of}
use Rattle.fields_43.specs.declared.Outcome.{Outcome}

parts : (a g p l : ℕ) → a ≤ 3 → g ≤ 1 → p ≤ 1 → l ≤ 15 → let x = a * 64 + g * 32 + p * 16 + l in
    (antenna x ≡ a) × (x / 32 % 2 ≡ g) × (x / 16 % 2 ≡ p) × (x % 16 ≡ l)
parts a g p l ha hg hp hl = (omega arith, omega arith, omega arith, omega arith)

digits : (b x y z : ℕ) → z < 4 → x * 16 + b % 16 ≡ b → y * 2 + x % 2 ≡ x → z * 2 + y % 2 ≡ y → z % 4 * 64 + y % 2 * 32 + x % 2 * 16 + b % 16 ≡ b
digits b x y z l p q r = let e : z % 4 ≡ z = omega arith in omega arith

whole : (b : ℕ) → b < 256 → antenna b * 64 + b / 32 % 2 * 32 + b / 16 % 2 * 16 + b % 16 ≡ b
whole b h =
    let q : b / 32 ≡ b / 16 / 2 = omega arith in
    let r : b / 64 ≡ b / 16 / 2 / 2 = omega arith in
    rw (q, r) (digits b (b / 16) (b / 16 / 2) (b / 16 / 2 / 2) (omega arith) (omega arith) (omega arith) (omega arith))

pub bit_le : (t : Bool) → bit_of t ≤ 1
bit_le true = omega arith
bit_le false = omega arith

bit_read : (t : Bool) → eqb (bit_of t) 1 ≡ t
bit_read true = refl
bit_read false = refl

bit_written : (n : ℕ) → n ≤ 1 → bit_of (eqb n 1) ≡ n
bit_written n h = go (eqb n 1) refl
  where
    go : (t : Bool) → eqb n 1 ≡ t → bit_of t ≡ n
    go true e = sym (eqb-true n 1 e)
    go false e = let q = eqb-false n 1 e in omega arith

-- the result byte is a byte, and where there is room it keeps its parts
byte_small : (f : Outcome) → result_byte f < 256
byte_small f = go (room f) refl
  where
    go : (t : Bool) → room f ≡ t → cond t (f.antenna * 64 + bit_of f.glonass * 32 + bit_of f.gps * 16 + f.low) 0x80 < 256
    go true e =
        let b = (and-eq-true_iff (leb f.antenna 3) (leb f.low 15)).0 e in
        omega (arith, leb-true f.antenna 3 b.0, leb-true f.low 15 b.1, bit_le f.glonass, bit_le f.gps)
    go false e = omega arith

pub result_kept : (f : Outcome) → room f ≡ true → result_of (result_byte f) ≡ f
result_kept f r =
    let b = (and-eq-true_iff (leb f.antenna 3) (leb f.low 15)).0 r in
    let p = parts f.antenna (bit_of f.glonass) (bit_of f.gps) f.low (leb-true f.antenna 3 b.0) (bit_le f.glonass) (bit_le f.gps) (leb-true f.low 15 b.1) in
    rw r (λ k. record {
      antenna = p.0 k;
      glonass = (ap (λ (n : ℕ). eqb n 1) p.1 ∙ bit_read f.glonass) k;
      gps = (ap (λ (n : ℕ). eqb n 1) p.2 ∙ bit_read f.gps) k;
      low = p.3 k;
    })

result_data : (b : ℕ) → b < 256 → result_byte (result_of b) ≡ b
result_data b h =
    let r : room (result_of b) ≡ true = (and-eq-true_iff _ _).1 (le-leb (antenna b) 3 (omega arith), le-leb (b % 16) 15 (omega arith)) in
    rw (r, bit_written (b / 32 % 2) (omega arith), bit_written (b / 16 % 2) (omega arith)) (whole b h)

-- fields without room are refused by 12
pub no_room : (f : Outcome) → room f ≡ false → content 0x43 (data_of f) ≡ 12
unfolding content table row_in length_ok allows data_of joined bytes_of
no_room f e = let d : data_of f ≡ 2 ∷ 0x80 ∷ 0 ∷ 0 ∷ 0 ∷ 0 ∷ [] = rw e in ap (content 0x43) d

has_room : (f : Outcome) → content 0x43 (data_of f) ≡ 0 → room f ≡ true
has_room f c = go (room f) refl
  where
    go : (t : Bool) → room f ≡ t → t ≡ true
    go true e = refl
    go false e = let z : ◌≡◌ {A = ℕ} 12 0 = sym (no_room f e) ∙ c in absurd (omega arith)

pub byte_written : (f : Outcome) → int8u_at (data_of f) 1 ≡ result_byte f
unfolding data_of read_rows
byte_written f =
    let e = read_joined [] (rows_of f) (omega arith, (omega (arith, byte_small f), (omega arith, (omega arith, (omega arith, (omega arith, tt)))))) in
    λ k. nat (e k) 1

read_written : (f : Outcome) → Unit {0} → content 0x43 (data_of f) ≡ 0 → fields_of (data_of f) ≡ f
unfolding fields_of
read_written f h c = ap result_of (byte_written f) ∙ result_kept f (has_room f c)

written_read : (d : List ℕ) → Bytes d → content 0x43 d ≡ 0 → data_of (fields_of d) ≡ d
unfolding fields_of data_of read_rows widths table row_in
written_read d y h =
    let n : length d ≡ 6 = one_length_lem 0x43 6 in_43 d refl h in
    let zero : ℕ → Bool = λ i. eqb (byte d (2 + i)) 0 in
    let p = (and-eq-true_iff (eqb (byte d 0) 2 && not (eqb (antenna (byte d 1)) 2)) (all 4 zero)).0 (accepted_parts 0x43 (only 0x43 6 in_43) d refl h).1 in
    let two : 2 ≡ int8u_at d 0 = sym (number_one d 0 ∙ eqb-true (byte d 0) 2 ((and-eq-true_iff (eqb (byte d 0) 2) (not (eqb (antenna (byte d 1)) 2))).0 p.0).0) in
    let small : int8u_at d 1 < 256 = rw (number_one d 1) (y 1 (omega arith)) in
    let nul : (i : ℕ) → i < 4 → 0 ≡ int8u_at d (2 + i) = λ i l. sym (number_one d (2 + i) ∙ eqb-true (byte d (2 + i)) 0 (all_at 4 zero p.1 i l)) in
    (λ k. joined (INT8U (two k) ∷ INT8U (result_data (int8u_at d 1) small k) ∷ INT8U (nul 0 (omega arith) k) ∷ INT8U (nul 1 (omega arith) k)
    ∷ INT8U (nul 2 (omega arith) k) ∷ INT8U (nul 3 (omega arith) k) ∷ []))
    ∙ joined_read (rows_of (fields_of d)) 0 d (sym n) y

-- every value of the fields' types fits
pub encode_decode : EncodeDecode 0x43 data_of decoded_of Ok (λ f. Unit {0})
encode_decode = laws.encode_fields 0x43 fields_of data_of (λ f. Unit {0}) (λ f. f) read_written

pub decode_encode : DecodeEncode 0x43 data_of decoded_of Ok Bytes
decode_encode = laws.decode_fields 0x43 fields_of data_of written_read
