-- The round trips of 23h: the layout is a list of rows, and reading and writing rows are inverse. Hours and minutes are not kept
-- where the count is 0.
use mathlib.Core.Path.{◌≡◌, refl, sym, ap, ◌∙◌}
use mathlib.Core.Bool.{cond}
use mathlib.Core.List.{List, [], ◌∷◌}
use mathlib.Core.Logic.{◌⊎◌, inl, inr}
use Rattle.std.specs.Prelude.{Ok}
use Prim.Native.Nat.{ℕ, zero, suc}
use native.Mathlib.Omega.{arith}
use borrow.Author.Tests.{eq-eqb}
use lib.Dec.{eqb}
use lib.IntN.{pos}
use lib.ListN.{length, take}
use Rattle.numbers.specs.Number.{bytes_of, number_at}
use Rattle.numbers.specs.Signed.{signed}
use Rattle.kinds.specs.Kinds.{table, row_in, content}
use Rattle.encoding.specs.RoundTrip.{EncodeDecode, DecodeEncode}
use Rattle.encoding.proofs.AcceptedLaws.{two_lengths}
use Rattle.octets.specs.Bytes.{Bytes}
use Rattle.encoding.proofs.RoundTripLaws as laws
use Rattle.rows.specs.Layout.{AllHeld, INT8S, joined}
use Rattle.rows.proofs.RowLaws.{int, read_rows, widths, read_joined, joined_read}
use Rattle.fields_23.specs.Fields.{fields_of, all_rows, rows_of, data_of, decoded_of}
use Rattle.fields_23.specs.declared.Zone.{Zone}

abbrev pub kept : Zone → Zone
kept f = cond (eqb f.count 2) f (record { count = 0; hours = pos 0; minutes = pos 0 })

-- acceptable data has as many bytes as the count says
counts : (f : Zone) (n : ℕ) → (length (joined (take n (all_rows f))) ≡ 0) ⊎ (length (joined (take n (all_rows f))) ≡ 2) → (n ≡ 0) ⊎ (n ≡ 2)
unfolding joined bytes_of
counts f zero l = inl refl
counts f (suc zero) (inl e) = absurd (omega arith)
counts f (suc zero) (inr e) = absurd (omega arith)
counts f (suc (suc zero)) l = inr refl
counts f (suc (suc (suc n))) (inl e) = absurd (omega arith)
counts f (suc (suc (suc n))) (inr e) = absurd (omega arith)

read_none : (f : Zone) → f.count ≡ 0 → fields_of (data_of f) ≡ kept f
unfolding fields_of data_of joined number_at signed
read_none f c = rw c

read_both : (f : Zone) → f.count ≡ 2 → AllHeld (INT8S f.hours ∷ INT8S f.minutes ∷ []) → fields_of (data_of f) ≡ kept f
unfolding fields_of data_of read_rows joined bytes_of
read_both f c h =
    let e = read_joined [] (INT8S f.hours ∷ INT8S f.minutes ∷ []) h in
    let q : kept f ≡ f = rw (eq-eqb f.count 2 c) in
    ap (λ (n : ℕ). fields_of (joined (take n (all_rows f)))) c
    ∙ (λ k. record {
      count = sym c k;
      hours = int (e k) 0;
      minutes = int (e k) 1;
    })
    ∙ sym q

read_written : (f : Zone) → AllHeld (rows_of f) → content 0x23 (data_of f) ≡ 0 → fields_of (data_of f) ≡ kept f
unfolding data_of table row_in
read_written f h c = elim (counts f f.count (two_lengths 0x23 0 2 _ (data_of f) refl c)) [ inl e ↦ read_none f e | inr e ↦ read_both f e (rw e at h) ]

written_read : (d : List ℕ) → Bytes d → content 0x23 d ≡ 0 → data_of (fields_of d) ≡ d
unfolding fields_of data_of read_rows widths table row_in
written_read d y h = go (two_lengths 0x23 0 2 _ d refl h)
  where
    go : (length d ≡ 0) ⊎ (length d ≡ 2) → data_of (fields_of d) ≡ d
    go (inl e) = ap (λ (n : ℕ). joined (take n (all_rows (fields_of d)))) e ∙ joined_read [] 0 d (sym e) y
    go (inr e) =
        ap (λ (n : ℕ). joined (take n (all_rows (fields_of d)))) e
        ∙ joined_read (INT8S (fields_of d).hours ∷ INT8S (fields_of d).minutes ∷ []) 0 d (sym e) y

pub encode_decode : EncodeDecode 0x23 data_of decoded_of (λ f. Ok (kept f)) (λ f. AllHeld (rows_of f))
encode_decode = laws.encode_fields 0x23 fields_of data_of (λ f. AllHeld (rows_of f)) kept read_written

pub decode_encode : DecodeEncode 0x23 data_of decoded_of Ok Bytes
decode_encode = laws.decode_fields 0x23 fields_of data_of written_read
