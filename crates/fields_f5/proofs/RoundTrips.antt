-- The round trips of F5h, over what the calls return: the header by the laws of rows, the channels by those of entries. What was encoded
-- is decoded as its fields, with channels past the count blank.
use mathlib.Core.Path.{◌≡◌, refl, sym, ap, ◌∙◌}
use mathlib.Core.List.{List, [], ◌∷◌, ◌++◌}
use Prim.Native.Nat.{ℕ, ◌+◌, ◌*◌, ◌≤◌, ◌<◌}
use native.Mathlib.Omega.{arith}
use borrow.Author.Tests.{eq-eqb, le-leb, leb-true}
use lib.Dec.{leb}
use lib.ListN.{length, take, drop, get_or, length-append, length-drop, take-append-drop}
use lib.Seq.{take_all, take_at, length-take-le, get_or-take}
use Rattle.std.specs.Prelude.{Result, Ok}
use Rattle.octets.specs.Bytes.{Bytes}
use Rattle.octets.specs.Placing.{placed}
use Rattle.octets.specs.Delivery.{accepted, written_of, filled_of}
use Rattle.octets.specs.Delivery.{Written}
use Rattle.numbers.specs.Number.{bytes_of}
use Rattle.kinds.specs.Kinds.{content}
use Rattle.encoding.specs.Entries.{entry_slice, entries_of, entries_data, Long, kept_entries}
use Rattle.encoding.proofs.CallLaws.{cond_zero, call_back, call_writes}
use Rattle.encoding.proofs.RoundTripLaws.{decoded_fields}
use Rattle.encoding.proofs.EntryLaws.{entry_length, length_entries, read_laid, laid_read}
use Rattle.rows.specs.Layout.{AllHeld, joined}
use Rattle.rows.proofs.RowLaws.{nat, int, read_rows, widths, read_joined, joined_read}
use Rattle.fields_f5.specs.declared.Header.{Header}
use Rattle.fields_f5.specs.declared.Measurements.{Measurements}
use Rattle.fields_f5.specs.Fields.{header_of, rows_of, header_data, entry_of, entry_data, blank, channels, count_of, fields_of, data_of, decoded_of, refusal_of}
use Rattle.fields_f5.proofs.ChannelCount.{count_f5, accepts_f5}

pub length_header : (h : Header) → length (header_data h) ≡ 27
unfolding header_data joined bytes_of
length_header h = refl

header_read : (h : Header) → AllHeld (rows_of h) → header_of (header_data h) ≡ h
unfolding header_of header_data read_rows
header_read h held =
    let e = read_joined [] (rows_of h) held in
    λ k. record {
      time = nat (e k) 0;
      week = nat (e k) 1;
      gps_shift = nat (e k) 2;
      glonass_shift = nat (e k) 3;
      correction = int (e k) 4;
    }

header_written : (d : List ℕ) → length d ≡ 27 → Bytes d → header_data (header_of d) ≡ d
unfolding header_of header_data read_rows widths
header_written d l y = joined_read (rows_of (header_of d)) 0 d (sym l) y

entry_written : (s : List ℕ) → length s ≡ 30 → entry_data (entry_of s) ≡ s
entry_written [] l = absurd (omega arith)
entry_written (a ∷ []) l = absurd (omega arith)
entry_written (a ∷ b ∷ []) l = absurd (omega arith)
entry_written (a ∷ b ∷ c ∷ []) l = absurd (omega arith)
entry_written (a ∷ b ∷ c ∷ d ∷ r) l = refl

-- the fields are of their types: 32 channels, of which each that counts has 26 bytes past its first four
pub record InTypes (f : Measurements) : Type 0 where
  pub header : AllHeld (rows_of f.header)
  pub most : length f.channels ≡ 32
  pub rest : (i : ℕ) → i < f.n → length (get_or f.channels i blank).rest ≡ 26

long : (f : Measurements) → InTypes f → Long channels f.channels f.n
long f t i h = omega (arith, t.rest i h)

length_data : (f : Measurements) → InTypes f → length (data_of f) ≡ 27 + 30 * f.n
length_data f t =
    length-append (header_data f.header) (entries_data channels f.channels f.n)
    ∙ (λ k. length_header f.header k + length_entries channels f.channels f.n (long f t) k)

read_data : (f : Measurements) → InTypes f → f.n ≤ 32
    → fields_of (data_of f) ≡ record { header = f.header; n = f.n; channels = kept_entries channels f.channels f.n }
read_data f t m =
    let top = header_data f.header in
    let h : header_of (take 27 (data_of f)) ≡ f.header =
    ap header_of (take_at top (entries_data channels f.channels f.n) 27 (length_header f.header)) ∙ header_read f.header t.header in
    let n : count_of (data_of f) ≡ f.n = omega (arith, length_data f t) in
    let e =
    read_laid channels (λ _. Unit {0}) (λ c u. refl) top (length_header f.header) f.channels f.n (long f t) (omega (arith, t.most)) (λ i k. tt) in
    λ k. record { header = h k; n = n k; channels = ((λ j. entries_of channels (data_of f) (n j)) ∙ e) k }

data_read : (d : List ℕ) → Bytes d → content 0xF5 d ≡ 0 → data_of (fields_of d) ≡ d
data_read d y h =
    let c = count_f5 d h in
    let l : length (take 27 d) ≡ 27 = length-take-le 27 d (omega arith) in
    let top : header_data (header_of (take 27 d)) ≡ take 27 d =
    header_written (take 27 d) l (λ i k. rw (get_or-take 27 d i 0 (omega arith)) (y i (omega arith))) in
    let rest : entries_data channels (entries_of channels d (count_of d)) (count_of d) ≡ drop 27 d =
    laid_read channels d (count_of d) (omega arith) (λ i k. entry_written (entry_slice channels d i) (entry_length channels d i k))
    ∙ take_all (30 * count_of d) (drop 27 d) (rw length-drop (omega arith)) in
    (λ k. top k ++ rest k) ∙ take-append-drop 27 d

pub encode_decode : (f : Measurements) (b b' : List ℕ) (w : Written) (r : Result Measurements ℕ) → InTypes f
    → w ≡ written_of (refusal_of f) (data_of f) b → b' ≡ filled_of (refusal_of f) (data_of f) b → w.refusal ≡ 0
    → r ≡ decoded_of (take w.length b')
    → r ≡ Ok (record { header = f.header; n = f.n; channels = kept_entries channels f.channels f.n })
encode_decode f b b' w r t answer left z read =
    let c = call_back (refusal_of f) (data_of f) b w b' answer left z in
    let m : f.n ≤ 32 = leb-true f.n 32 (cond_zero (leb f.n 32) 0 11 (λ e. omega arith) c.0).0 in
    read ∙ ap decoded_of c.1 ∙ rw (eq-eqb _ _ (accepts_f5 (data_of f) f.n (length_data f t) m)) (ap Ok (read_data f t m))

pub decode_encode : (d b b' : List ℕ) (f : Measurements) (w : Written) (r : Result Measurements ℕ) → Bytes d → r ≡ decoded_of d → r ≡ Ok f
    → length d ≤ length b → w ≡ written_of (refusal_of f) (data_of f) b → b' ≡ filled_of (refusal_of f) (data_of f) b
    → (w ≡ accepted (length d)) × (b' ≡ placed b 0 d)
decode_encode d b b' f w r y read holds room answer left =
    let h = decoded_fields 0xF5 fields_of d f (sym read ∙ holds) in
    let v : refusal_of (fields_of d) ≡ 0 = rw (le-leb (count_of d) 32 (count_f5 d h.0).1) in
    let e : f ≡ fields_of d = sym h.1 in
    call_writes (refusal_of f) (data_of f) b w b' answer left d (ap data_of e ∙ data_read d y h.0) (ap refusal_of e ∙ v) room
