-- The round trips of 47h, over what the calls return: both are the laws of entries (EntryLaws), from one triple.
use mathlib.Core.Path.{◌≡◌, refl, sym, ap, ◌∙◌}
use mathlib.Core.List.{List, [], append-nil}
use Prim.Native.Nat.{ℕ}
use Rattle.std.specs.Prelude.{Ok}
use native.Mathlib.Omega.{arith}
use lib.ListN.{length, take}
use lib.Seq.{take-length}
use Rattle.ranges.specs.Ranges.{in_47}
use Rattle.kinds.specs.Kinds.{table, row_in}
use Rattle.encoding.specs.RoundTrip.{EncodeDecode, DecodeEncode}
use Rattle.encoding.specs.Entries.{entry_slice, entries_of}
use Rattle.encoding.proofs.AcceptedLaws.{one_length_lem, spelled}
use Rattle.encoding.proofs.EntryLaws.{entry_length, read_laid, laid_read}
use Rattle.encoding.proofs.RoundTripLaws as laws
use Rattle.fields_47.specs.declared.Uses.{Uses}
use Rattle.fields_47.specs.Fields.{uses, fields_of, data_of, decoded_of}

read_data : (f : Uses) → length f.triples ≡ 56 → fields_of (data_of f) ≡ f
read_data f l =
    let all : take 56 f.triples ≡ f.triples = ap (λ (i : ℕ). take i f.triples) (sym l) ∙ take-length f.triples in
    let e : entries_of uses (data_of f) 56 ≡ f.triples =
    read_laid uses (λ _. Unit {0}) (λ e t. refl) [] refl f.triples 56 (λ _ _. refl) (omega arith) (λ i k. tt)
    ∙ append-nil (take 56 f.triples)
    ∙ all in
    λ k. record { triples = e k }

data_read : (d : List ℕ) → length d ≡ 168 → data_of (fields_of d) ≡ d
data_read d l =
    laid_read uses d 56 (omega arith) (λ i h. spelled 3 0 (entry_slice uses d i) (entry_length uses d i h))
    ∙ ap (λ (i : ℕ). take i d) (sym l)
    ∙ take-length d

pub encode_decode : EncodeDecode 0x47 data_of decoded_of Ok (λ f. length f.triples ≡ 56)
encode_decode = laws.encode_fields 0x47 fields_of data_of (λ f. length f.triples ≡ 56) (λ f. f) (λ f l c. read_data f l)

pub decode_encode : DecodeEncode 0x47 data_of decoded_of Ok (λ d. Unit {0})
unfolding table row_in
decode_encode =
    laws.decode_encode 0x47 data_of decoded_of Ok (λ d. Unit {0}) (λ d f u e.
    let q = laws.decoded_fields 0x47 fields_of d f e in
    (q.0, ap data_of (sym q.1) ∙ data_read d (one_length_lem 0x47 168 in_47 d refl q.0)))
