-- The round trips of 49h, for both systems: each layout is a list of rows, and reading and writing rows are inverse.
use mathlib.Core.Path.{◌≡◌, refl, sym, ap, ◌∙◌}
use mathlib.Core.Bool.{Bool, true, false, cond, ◌&&◌, and-eq-true_iff}
use mathlib.Core.List.{List, []}
use Rattle.std.specs.Prelude.{Ok}
use Prim.Native.Nat.{ℕ}
use borrow.Author.Tests.{eqb-true}
use lib.Dec.{eqb, leb}
use lib.ListN.{length}
use Rattle.numbers.specs.Types.{int8u_at}
use Rattle.numbers.proofs.NumberLaws.{number_one}
use Rattle.ranges.specs.Ranges.{in_49}
use Rattle.octets.specs.Bytes.{byte, Bytes}
use Rattle.kinds.specs.Kinds.{table, row_in, one_of, allows, chosen_49, length_ok, content}
use Rattle.encoding.specs.RoundTrip.{EncodeDecode, DecodeEncode}
use Rattle.encoding.proofs.AcceptedLaws.{accepted_parts}
use Rattle.encoding.proofs.RoundTripLaws as laws
use Rattle.rows.specs.Layout.{AllHeld, joined}
use Rattle.rows.proofs.RowLaws.{nat, int, read_rows, widths, read_joined, joined_read}
use Rattle.fields_49.specs.Fields.{fields_of_gps, rows_of_gps, data_of_gps, fields_of_glonass, rows_of_glonass, data_of_glonass, fields_of, data_of, decoded_of}
use Rattle.fields_49.specs.declared.Gps.{Gps}
use Rattle.fields_49.specs.declared.Glonass.{Glonass}
use Rattle.fields_49.specs.declared.Ephemeris.{Ephemeris}

read_written_gps : (f : Gps) → AllHeld (rows_of_gps f) → fields_of_gps (data_of_gps f) ≡ f
unfolding fields_of_gps data_of_gps read_rows
read_written_gps f h =
    let e = read_joined [] (rows_of_gps f) h in
    λ k. record {
      prn = nat (e k) 1;
      crs = nat (e k) 2;
      delta_n = nat (e k) 3;
      m0 = nat (e k) 4;
      cuc = nat (e k) 5;
      e = nat (e k) 6;
      cus = nat (e k) 7;
      sqrt_a = nat (e k) 8;
      toe = nat (e k) 9;
      cic = nat (e k) 10;
      omega0 = nat (e k) 11;
      cis = nat (e k) 12;
      i0 = nat (e k) 13;
      crc = nat (e k) 14;
      omega = nat (e k) 15;
      omega_dot = nat (e k) 16;
      idot = nat (e k) 17;
      tgd = nat (e k) 18;
      toc = nat (e k) 19;
      af2 = nat (e k) 20;
      af1 = nat (e k) 21;
      af0 = nat (e k) 22;
      ura = nat (e k) 23;
      iode = nat (e k) 24;
    }

system_written_gps : (f : Gps) → AllHeld (rows_of_gps f) → int8u_at (data_of_gps f) 0 ≡ 1
unfolding data_of_gps read_rows
system_written_gps f h = let e = read_joined [] (rows_of_gps f) h in λ k. nat (e k) 0

written_read_gps : (d : List ℕ) → Bytes d → int8u_at d 0 ≡ 1 → length d ≡ 130 → data_of_gps (fields_of_gps d) ≡ d
unfolding fields_of_gps data_of_gps read_rows joined widths
written_read_gps d y v e = rw v at (joined_read (rows_of_gps (fields_of_gps d)) 0 d (sym e) y)

read_written_glonass : (f : Glonass) → AllHeld (rows_of_glonass f) → fields_of_glonass (data_of_glonass f) ≡ f
unfolding fields_of_glonass data_of_glonass read_rows
read_written_glonass f h =
    let e = read_joined [] (rows_of_glonass f) h in
    λ k. record {
      number = nat (e k) 1;
      carrier = int (e k) 2;
      x = nat (e k) 3;
      y = nat (e k) 4;
      z = nat (e k) 5;
      vx = nat (e k) 6;
      vy = nat (e k) 7;
      vz = nat (e k) 8;
      ax = nat (e k) 9;
      ay = nat (e k) 10;
      az = nat (e k) 11;
      tb = nat (e k) 12;
      gamma = nat (e k) 13;
      tau = nat (e k) 14;
      age = nat (e k) 15;
    }

system_written_glonass : (f : Glonass) → AllHeld (rows_of_glonass f) → int8u_at (data_of_glonass f) 0 ≡ 2
unfolding data_of_glonass read_rows
system_written_glonass f h = let e = read_joined [] (rows_of_glonass f) h in λ k. nat (e k) 0

written_read_glonass : (d : List ℕ) → Bytes d → int8u_at d 0 ≡ 2 → length d ≡ 93 → data_of_glonass (fields_of_glonass d) ≡ d
unfolding fields_of_glonass data_of_glonass read_rows joined widths
written_read_glonass d y v e = rw v at (joined_read (rows_of_glonass (fields_of_glonass d)) 0 d (sym e) y)

-- acceptable data: the first byte chooses the length, and is 1 or 2
chosen : (d : List ℕ) → content 0x49 d ≡ 0 → (chosen_49 (byte d 0) (length d) ≡ true) × (in_49 d ≡ true)
unfolding table row_in length_ok
chosen d h =
    let p = accepted_parts 0x49 (one_of 0x49 93 130 in_49) d refl h in
    (((and-eq-true_iff (allows (one_of 0x49 93 130 in_49).kind (length d)) (chosen_49 (byte d 0) (length d))).0 p.0).1, p.1)

gps_length : (d : List ℕ) → content 0x49 d ≡ 0 → int8u_at d 0 ≡ 1 → length d ≡ 130
unfolding chosen_49
gps_length d h v =
    let e : byte d 0 ≡ 1 = sym (number_one d 0) ∙ v in
    eqb-true (length d) 130 (rw e at (chosen d h).0)

glonass_first : (d : List ℕ) → content 0x49 d ≡ 0 → eqb (int8u_at d 0) 1 ≡ false → int8u_at d 0 ≡ 2
glonass_first d h v =
    let f : eqb (byte d 0) 1 ≡ false = ap (λ (n : ℕ). eqb n 1) (sym (number_one d 0)) ∙ v in
    let p = rw f at (chosen d h).1 in
    let q = ((and-eq-true_iff (eqb (byte d 0) 2 && leb (byte d 1) 24) _).0 p).0 in
    number_one d 0 ∙ eqb-true (byte d 0) 2 ((and-eq-true_iff (eqb (byte d 0) 2) (leb (byte d 1) 24)).0 q).0

glonass_length : (d : List ℕ) → content 0x49 d ≡ 0 → int8u_at d 0 ≡ 2 → length d ≡ 93
unfolding chosen_49
glonass_length d h v =
    let e : byte d 0 ≡ 2 = sym (number_one d 0) ∙ v in
    eqb-true (length d) 93 (rw e at (chosen d h).0)

-- both systems
abbrev pub Held : Ephemeris → Type 0
Held (Ephemeris.Gps f) = AllHeld (rows_of_gps f)
Held (Ephemeris.Glonass f) = AllHeld (rows_of_glonass f)

read_written : (e : Ephemeris) → Held e → content 0x49 (data_of e) ≡ 0 → fields_of (data_of e) ≡ e
read_written (Ephemeris.Gps f) h c = rw (system_written_gps f h) (ap Ephemeris.Gps (read_written_gps f h))
read_written (Ephemeris.Glonass f) h c = rw (system_written_glonass f h) (ap Ephemeris.Glonass (read_written_glonass f h))

written_read : (d : List ℕ) → Bytes d → content 0x49 d ≡ 0 → data_of (fields_of d) ≡ d
written_read d y h = go (eqb (int8u_at d 0) 1) refl
  where
    go : (t : Bool) → eqb (int8u_at d 0) 1 ≡ t → data_of (cond t (Ephemeris.Gps (fields_of_gps d)) (Ephemeris.Glonass (fields_of_glonass d))) ≡ d
    go true p = let v = eqb-true (int8u_at d 0) 1 p in written_read_gps d y v (gps_length d h v)
    go false p = let v = glonass_first d h p in written_read_glonass d y v (glonass_length d h v)

pub encode_decode : EncodeDecode 0x49 data_of decoded_of Ok Held
encode_decode = laws.encode_fields 0x49 fields_of data_of Held (λ e. e) read_written

pub decode_encode : DecodeEncode 0x49 data_of decoded_of Ok Bytes
decode_encode = laws.decode_fields 0x49 fields_of data_of written_read

-- the same of each system
pub encode_decode_gps : EncodeDecode 0x49 data_of_gps decoded_of (λ f. Ok (Ephemeris.Gps f)) (λ f. AllHeld (rows_of_gps f))
encode_decode_gps f = encode_decode (Ephemeris.Gps f)

pub encode_decode_glonass : EncodeDecode 0x49 data_of_glonass decoded_of (λ f. Ok (Ephemeris.Glonass f)) (λ f. AllHeld (rows_of_glonass f))
encode_decode_glonass f = encode_decode (Ephemeris.Glonass f)

pub decode_encode_gps : DecodeEncode 0x49 data_of_gps decoded_of (λ f. Ok (Ephemeris.Gps f)) Bytes
decode_encode_gps d b b' f = decode_encode d b b' (Ephemeris.Gps f)

pub decode_encode_glonass : DecodeEncode 0x49 data_of_glonass decoded_of (λ f. Ok (Ephemeris.Glonass f)) Bytes
decode_encode_glonass d b b' f = decode_encode d b b' (Ephemeris.Glonass f)
