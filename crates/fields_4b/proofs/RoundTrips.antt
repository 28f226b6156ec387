-- The round trips of 4Bh: the layout is a list of rows, and reading and writing rows are inverse.
use mathlib.Core.Path.{◌≡◌, refl, sym}
use mathlib.Core.List.{List, []}
use Rattle.std.specs.Prelude.{Ok}
use Prim.Native.Nat.{ℕ}
use Rattle.kinds.specs.Kinds.{table, row_in, content}
use Rattle.encoding.specs.RoundTrip.{EncodeDecode, DecodeEncode}
use Rattle.encoding.proofs.AcceptedLaws.{one_length_lem}
use Rattle.octets.specs.Bytes.{Bytes}
use Rattle.encoding.proofs.RoundTripLaws as laws
use Rattle.rows.specs.Layout.{AllHeld}
use Rattle.rows.proofs.RowLaws.{nat, int, read_rows, widths, read_joined, joined_read}
use Rattle.fields_4b.specs.Fields.{fields_of, rows_of, data_of, decoded_of}
use Rattle.fields_4b.specs.declared.Scales.{Scales}

read_written : (f : Scales) → AllHeld (rows_of f) → content 0x4B (data_of f) ≡ 0 → fields_of (data_of f) ≡ f
unfolding fields_of data_of read_rows
read_written f h c =
    let e = read_joined [] (rows_of f) h in
    λ k. record {
      a0 = nat (e k) 0;
      a1 = nat (e k) 1;
      tot = nat (e k) 2;
      wnt = nat (e k) 3;
      dt_ls = int (e k) 4;
      wn_lsf = nat (e k) 5;
      dn = nat (e k) 6;
      dt_lsf = int (e k) 7;
      gps_reliable = nat (e k) 8;
      na = nat (e k) 9;
      tau_c = nat (e k) 10;
      glonass_reliable = nat (e k) 11;
    }

written_read : (d : List ℕ) → Bytes d → content 0x4B d ≡ 0 → data_of (fields_of d) ≡ d
unfolding fields_of data_of read_rows widths table row_in
written_read d y h = joined_read (rows_of (fields_of d)) 0 d (sym (one_length_lem 0x4B 42 _ d refl h)) y

pub encode_decode : EncodeDecode 0x4B data_of decoded_of Ok (λ f. AllHeld (rows_of f))
encode_decode = laws.encode_fields 0x4B fields_of data_of (λ f. AllHeld (rows_of f)) (λ f. f) read_written

pub decode_encode : DecodeEncode 0x4B data_of decoded_of Ok Bytes
decode_encode = laws.decode_fields 0x4B fields_of data_of written_read
