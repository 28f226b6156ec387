-- The round trips of 4Ah: the layout is a list of rows, and reading and writing rows are inverse.
use mathlib.Core.Path.{◌≡◌, refl, sym}
use mathlib.Core.List.{List, []}
use Rattle.std.specs.Prelude.{Ok}
use Prim.Native.Nat.{ℕ}
use Rattle.kinds.specs.Kinds.{table, row_in, content}
use Rattle.encoding.specs.RoundTrip.{EncodeDecode, DecodeEncode}
use Rattle.encoding.proofs.AcceptedLaws.{one_length_lem}
use Rattle.octets.specs.Bytes.{Bytes}
use Rattle.encoding.proofs.RoundTripLaws as laws
use Rattle.rows.specs.Layout.{AllHeld}
use Rattle.rows.proofs.RowLaws.{nat, read_rows, widths, read_joined, joined_read}
use Rattle.fields_4a.specs.Fields.{fields_of, rows_of, data_of, decoded_of}
use Rattle.fields_4a.specs.declared.Ionosphere.{Ionosphere}

read_written : (f : Ionosphere) → AllHeld (rows_of f) → content 0x4A (data_of f) ≡ 0 → fields_of (data_of f) ≡ f
unfolding fields_of data_of read_rows
read_written f h c =
    let e = read_joined [] (rows_of f) h in
    λ k. record {
      alpha0 = nat (e k) 0;
      alpha1 = nat (e k) 1;
      alpha2 = nat (e k) 2;
      alpha3 = nat (e k) 3;
      beta0 = nat (e k) 4;
      beta1 = nat (e k) 5;
      beta2 = nat (e k) 6;
      beta3 = nat (e k) 7;
      reliable = nat (e k) 8;
    }

written_read : (d : List ℕ) → Bytes d → content 0x4A d ≡ 0 → data_of (fields_of d) ≡ d
unfolding fields_of data_of read_rows widths table row_in
written_read d y h = joined_read (rows_of (fields_of d)) 0 d (sym (one_length_lem 0x4A 33 _ d refl h)) y

pub encode_decode : EncodeDecode 0x4A data_of decoded_of Ok (λ f. AllHeld (rows_of f))
encode_decode = laws.encode_fields 0x4A fields_of data_of (λ f. AllHeld (rows_of f)) (λ f. f) read_written

pub decode_encode : DecodeEncode 0x4A data_of decoded_of Ok Bytes
decode_encode = laws.decode_fields 0x4A fields_of data_of written_read
