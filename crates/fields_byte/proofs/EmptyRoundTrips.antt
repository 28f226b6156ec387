-- The round trips of the kinds without data, over what the calls return: what was encoded is decoded, and what is decoded is encoded.
use mathlib.Core.Path.{◌≡◌, refl, sym, ap, ◌∙◌}
use mathlib.Core.Bool.{Bool, true, ◌||◌}
use mathlib.Core.List.{List, []}
use Prim.Native.Nat.{ℕ, ◌≤◌}
use native.Mathlib.Omega.{arith}
use borrow.Author.Tests.{eq-eqb, eqb-true}
use Rattle.std.specs.Prelude.{Result, Ok}
use lib.Dec.{eqb}
use lib.ListN.{length, take}
use Rattle.octets.specs.Placing.{placed}
use Rattle.octets.specs.Delivery.{accepted, written_of, filled_of}
use Rattle.octets.specs.Delivery.{Written}
use Rattle.ranges.specs.Ranges.{free}
use Rattle.kinds.specs.Kinds.{table, row_in, content}
use Rattle.encoding.proofs.CallLaws.{cond_zero, call_back, call_writes}
use Rattle.encoding.proofs.AcceptedLaws.{one_length_lem, spelled, either}
use Rattle.fields_byte.specs.Fields.{empty_kind, family_refusal, empty_refusal, decoded_empty_of}
use Rattle.fields_byte.proofs.RoundTrips.{answered_fields}

empty_length : (id : ℕ) (d : List ℕ) → empty_kind id ≡ true → content id d ≡ 0 → length d ≡ 0
unfolding table row_in
empty_length id d =
    let P : ℕ → Type 0 = λ i. content i d ≡ 0 → length d ≡ 0 in
    let a : Bool = eqb id 0x1B in
    let b : Bool = a || eqb id 0x1E in
    let c : Bool = b || eqb id 0x26 in
    either P id 0x54 c (one_length_lem 0x54 0 free d refl)
    (either P id 0x26 b (one_length_lem 0x26 0 free d refl)
    (either P id 0x1E a (one_length_lem 0x1E 0 free d refl)
    (λ q. rw (eqb-true id 0x1B q) (one_length_lem 0x1B 0 free d refl))))

pub encode_decode : (id : ℕ) (b b' : List ℕ) (w : Written) (r : Result (Unit {0}) ℕ)
    → w ≡ written_of (empty_refusal id) [] b → b' ≡ filled_of (empty_refusal id) [] b → w.refusal ≡ 0
    → r ≡ decoded_empty_of id (take w.length b') → r ≡ Ok tt
unfolding decoded_empty_of
encode_decode id b b' w r answer left z read =
    let c = call_back (empty_refusal id) [] b w b' answer left z in
    read ∙ ap (decoded_empty_of id) c.1 ∙ rw (eq-eqb _ _ c.0)

pub decode_encode : (id : ℕ) (d b b' : List ℕ) (r : Result (Unit {0}) ℕ) (w : Written)
    → r ≡ decoded_empty_of id d → r ≡ Ok tt → length d ≤ length b
    → w ≡ written_of (empty_refusal id) [] b → b' ≡ filled_of (empty_refusal id) [] b
    → (w ≡ accepted (length d)) × (b' ≡ placed b 0 d)
unfolding decoded_empty_of
decode_encode id d b b' r w read none room answer left =
    let v : family_refusal (empty_kind id) id d ≡ 0 = (answered_fields (family_refusal (empty_kind id) id d) tt tt (sym read ∙ none)).0 in
    let j = cond_zero (empty_kind id) (content id d) 10 (λ e. omega arith) v in
    let q : [] ≡ d = spelled 0 0 d (empty_length id d j.0 j.1) in
    call_writes (empty_refusal id) [] b w b' answer left d q (ap (family_refusal (empty_kind id) id) q ∙ v) room
