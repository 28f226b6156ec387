-- The round trips of 52h, over what the calls return: both are the laws of entries (EntryLaws), from one entry. What was encoded is
-- decoded as its fields, with entries past the count blank.
use mathlib.Core.Path.{◌≡◌, refl, sym, ap, ◌∙◌}
use mathlib.Core.List.{List, [], ◌∷◌}
use Prim.Native.Nat.{ℕ, suc, ◌+◌, ◌*◌, ◌/◌, ◌%◌, ◌≤◌, ◌<◌}
use native.Mathlib.Numerals.{add-one}
use native.Mathlib.Omega.{arith}
use borrow.Author.Tests.{leb-true}
use lib.Dec.{leb}
use lib.ListN.{length, take, get_or}
use lib.Seq.{drop-cons, take-length}
use lib.Signed.{mag}
use Rattle.std.specs.Prelude.{Ok, min}
use Rattle.std.proofs.Math.Nat.{min-eq_left}
use Rattle.numbers.specs.Number.{number_of, number_at}
use Rattle.numbers.proofs.NumberLaws.{number_in}
use Rattle.numbers.proofs.SignedLaws.{signed_unsigned, unsigned_signed}
use Rattle.octets.specs.Bytes.{byte, Bytes}
use Rattle.kinds.specs.Kinds.{content}
use Rattle.encoding.specs.RoundTrip.{EncodeDecode, DecodeEncode}
use Rattle.encoding.specs.Entries.{entry_slice, entries_of, kept_entries}
use Rattle.encoding.proofs.CallLaws.{cond_zero}
use Rattle.encoding.proofs.AcceptedLaws.{spelled}
use Rattle.encoding.proofs.RoundTripLaws as laws
use Rattle.encoding.proofs.EntryLaws.{entry_length, entry_bytes_lem, length_entries, read_laid, laid_read}
use Rattle.fields_52.specs.declared.Entry.{Entry}
use Rattle.fields_52.specs.declared.Visible.{Visible}
use Rattle.fields_52.proofs.EntryCount.{count_52, refusal_is}
use Rattle.fields_52.specs.Fields.{entry_of, entry_data, blank, visibles, count_of, read_of, data_of, decoded_of, refusal_of}

-- two bytes as a number, and back
pub number_two : (d : List ℕ) (at : ℕ) → at + 2 ≤ length d → number_at d at 2 ≡ byte d at + 256 * byte d (at + 1)
unfolding number_of
number_two d at h =
    rw (number_in d at 2 h, drop-cons d at 0 (omega arith), drop-cons d (suc at) 0 (omega arith), add-one) (omega arith)

two_bytes : (x : ℕ) → x < 65536 → x % 256 + 256 * (x / 256 % 256) ≡ x
two_bytes x h = omega arith

two_split : (a b : ℕ) → a < 256 → b < 256 → ((a + 256 * b) % 256 ≡ a) × ((a + 256 * b) / 256 % 256 ≡ b)
two_split a b p q = (omega arith, omega arith)

-- an entry's carrier is an i8, its azimuth a u16
pub record InTypes (e : Entry) : Type 0 where
  pub carrier : mag e.carrier < 128
  pub azimuth : e.azimuth < 65536

entry_read : (e : Entry) → InTypes e → entry_of (entry_data e) ≡ e
entry_read e t = λ k. record {
  system = e.system;
  number = e.number;
  carrier = signed_unsigned 8 e.carrier (omega arith) t.carrier k;
  elevation = e.elevation;
  azimuth = (number_two (entry_data e) 4 (omega arith) ∙ two_bytes e.azimuth t.azimuth) k;
  signal = e.signal;
}

entry_written : (s : List ℕ) → length s ≡ 7 → Bytes s → entry_data (entry_of s) ≡ s
entry_written s l y =
    let v : number_at s 4 2 ≡ byte s 4 + 256 * byte s 5 = number_two s 4 (omega arith) in
    let t = two_split (byte s 4) (byte s 5) (y 4 (omega arith)) (y 5 (omega arith)) in
    (λ k. byte s 0
    ∷ byte s 1
    ∷ unsigned_signed 8 (byte s 2) (y 2 (omega arith)) k
    ∷ byte s 3
    ∷ (ap (λ (n : ℕ). n % 256) v ∙ t.0) k
    ∷ (ap (λ (n : ℕ). n / 256 % 256) v ∙ t.1) k
    ∷ byte s 6
    ∷ [])
    ∙ spelled 7 0 s l

read_data : (f : Visible) → length f.entries ≡ 75 → f.n ≤ 75 → ((i : ℕ) → i < f.n → InTypes (get_or f.entries i blank))
    → read_of (data_of f) ≡ record { n = f.n; entries = kept_entries visibles f.entries f.n }
read_data f l m t =
    let whole : length (data_of f) / 7 ≡ f.n = omega (arith, length_entries visibles f.entries f.n (λ _ _. refl)) in
    let n : count_of (data_of f) ≡ f.n = ap (λ (k : ℕ). min k 75) whole ∙ min-eq_left m in
    let e = read_laid visibles InTypes entry_read [] refl f.entries f.n (λ _ _. refl) (omega arith) t in
    λ k. record { n = n k; entries = ((λ j. entries_of visibles (data_of f) (n j)) ∙ e) k }

data_read : (d : List ℕ) → Bytes d → content 0x52 d ≡ 0 → data_of (read_of d) ≡ d
data_read d y h =
    let c = count_52 d h in
    let all : 7 * count_of d ≡ length d = omega (arith, c.0, c.2) in
    laid_read visibles d (count_of d) (omega arith)
    (λ i k. entry_written (entry_slice visibles d i) (entry_length visibles d i k) (entry_bytes_lem visibles d i k y))
    ∙ ap (λ (i : ℕ). take i d) all
    ∙ take-length d

-- an array of 75 entries, of which those that count are of their types
pub record Fits (f : Visible) : Type 0 where
  pub most : length f.entries ≡ 75
  pub types : (i : ℕ) → i < f.n → InTypes (get_or f.entries i blank)

abbrev kept : Visible → Visible
kept f = record { n = f.n; entries = kept_entries visibles f.entries f.n }

-- acceptable data is of no more than 75 entries
few : (f : Visible) → content 0x52 (data_of f) ≡ 0 → f.n ≤ 75
unfolding refusal_of
few f c = leb-true f.n 75 (cond_zero (leb f.n 75) (content 0x52 (data_of f)) 11 (λ e. omega arith) (sym (refusal_is f) ∙ c)).0

pub encode_decode : EncodeDecode 0x52 data_of decoded_of (λ f. Ok (kept f)) Fits
encode_decode = laws.encode_fields 0x52 read_of data_of Fits kept (λ f t c. read_data f t.most (few f c) t.types)

pub decode_encode : DecodeEncode 0x52 data_of decoded_of Ok Bytes
decode_encode = laws.decode_fields 0x52 read_of data_of data_read
