-- The round trips of the kinds of one byte or none, over what the calls return. What was encoded is decoded as its fields, with the
-- value 0 where there is no byte.
use mathlib.Core.Path.{◌≡◌, refl, sym, ap, ◌∙◌}
use mathlib.Core.Bool.{Bool, true, false, cond, ◌||◌}
use mathlib.Core.List.{List}
use mathlib.Core.Logic.{◌⊎◌, inl, inr}
use Rattle.std.specs.Prelude.{Result, Ok, Err}
use Prim.Native.Nat.{ℕ, ◌≤◌}
use native.Mathlib.Omega.{arith}
use borrow.Author.Tests.{eqb-true, eqb-false, le-leb, leb-true}
use lib.Dec.{eqb, leb}
use lib.ListN.{length, take}
use Rattle.octets.specs.Placing.{placed}
use Rattle.octets.specs.Delivery.{accepted, written_of, filled_of}
use Rattle.octets.specs.Delivery.{Written}
use Rattle.ranges.specs.Ranges.{free, in_1f}
use Rattle.kinds.specs.Kinds.{table, row_in, content}
use Rattle.encoding.proofs.CallLaws.{cond_zero, call_back, call_writes}
use Rattle.encoding.proofs.AcceptedLaws.{two_lengths, one_length_lem, spelled, either}
use Rattle.fields_byte.specs.declared.OneByte.{OneByte}
use Rattle.fields_byte.specs.Fields.{one_byte_kind, family_refusal, answered, fields_of, data_of, decoded_of, refusal_of}

-- without the byte there is no value
abbrev pub kept_one_byte : OneByte → OneByte
kept_one_byte f = cond (eqb f.count 0) (record { count = 0; value = 0 }) f

one_byte_kept : (f : OneByte) → f.count ≤ 1 → fields_of (data_of f) ≡ kept_one_byte f
one_byte_kept f h = go (eqb f.count 0) refl
  where
    go : (t : Bool) → eqb f.count 0 ≡ t → fields_of (data_of f) ≡ kept_one_byte f
    go true e = let c : f.count ≡ 0 = eqb-true f.count 0 e in rw c
    go false e = let q = eqb-false f.count 0 e in let c : f.count ≡ 1 = omega arith in rw c

one_byte_data : (d : List ℕ) → length d ≤ 1 → data_of (fields_of d) ≡ d
one_byte_data d h = go (eqb (length d) 0) refl
  where
    go : (t : Bool) → eqb (length d) 0 ≡ t → data_of (fields_of d) ≡ d
    go true e = let c : length d ≡ 0 = eqb-true (length d) 0 e in rw c (spelled 0 0 d c)
    go false e = let q = eqb-false (length d) 0 e in let c : length d ≡ 1 = omega arith in rw c (spelled 1 0 d c)

one_byte_length : (id : ℕ) (d : List ℕ) → one_byte_kind id ≡ true → content id d ≡ 0 → length d ≤ 1
unfolding table row_in
one_byte_length id d =
    let P : ℕ → Type 0 = λ i. content i d ≡ 0 → length d ≤ 1 in
    let one : (i : ℕ) → (content i d ≡ 0 → (length d ≡ 0) ⊎ (length d ≡ 1)) → P i = λ i g h.
    elim (g h) [ inl e ↦ omega arith | inr e ↦ omega arith ] in
    let a : Bool = eqb id 0x21 in
    let b : Bool = a || eqb id 0x24 in
    let c : Bool = b || eqb id 0x27 in
    let e : Bool = c || eqb id 0x2A in
    let f : Bool = e || eqb id 0x1F in
    either P id 0xF4 f (λ h. omega (arith, one_length_lem 0xF4 1 free d refl h))
    (either P id 0x1F e (one 0x1F (two_lengths 0x1F 0 1 in_1f d refl))
    (either P id 0x2A c (one 0x2A (two_lengths 0x2A 0 1 free d refl))
    (either P id 0x27 b (one 0x27 (two_lengths 0x27 0 1 free d refl))
    (either P id 0x24 a (one 0x24 (two_lengths 0x24 0 1 free d refl))
    (λ q. rw (eqb-true id 0x21 q) (one 0x21 (two_lengths 0x21 0 1 free d refl)))))))

-- only a refusal of 0 is answered by fields, and by these
pub answered_fields : {A : Type 0} (v : ℕ) (f g : A) → answered v f ≡ Ok g → (v ≡ 0) × (f ≡ g)
answered_fields v f g = go (eqb v 0) refl
  where
    go : (t : Bool) → eqb v 0 ≡ t → cond t (Ok f) (Err v) ≡ Ok g → (v ≡ 0) × (f ≡ g)
    go true e q = (eqb-true v 0 e, cc)
    go false e q = let z : ◌≡◌ {A = ℕ} 0 1 = cc in absurd (omega arith)

pub encode_decode : (id : ℕ) (f : OneByte) (b b' : List ℕ) (w : Written) (r : Result OneByte ℕ)
    → w ≡ written_of (refusal_of id f) (data_of f) b → b' ≡ filled_of (refusal_of id f) (data_of f) b → w.refusal ≡ 0
    → r ≡ decoded_of id (take w.length b') → r ≡ Ok (kept_one_byte f)
unfolding decoded_of refusal_of
encode_decode id f b b' w r answer left z read =
    let c = call_back (refusal_of id f) (data_of f) b w b' answer left z in
    let k = cond_zero (one_byte_kind id) (cond (leb f.count 1) (content id (data_of f)) 11) 10 (λ e. omega arith) c.0 in
    let j = cond_zero (leb f.count 1) (content id (data_of f)) 11 (λ e. omega arith) k.1 in
    read ∙ ap (decoded_of id) c.1 ∙ rw (k.0, j.1, one_byte_kept f (leb-true f.count 1 j.0))

pub decode_encode : (id : ℕ) (d b b' : List ℕ) (r : Result OneByte ℕ) (f : OneByte) (w : Written)
    → r ≡ decoded_of id d → r ≡ Ok f → length d ≤ length b
    → w ≡ written_of (refusal_of id f) (data_of f) b → b' ≡ filled_of (refusal_of id f) (data_of f) b
    → (w ≡ accepted (length d)) × (b' ≡ placed b 0 d)
unfolding decoded_of refusal_of
decode_encode id d b b' r f w read gave room answer left =
    let v = answered_fields (family_refusal (one_byte_kind id) id d) (fields_of d) f (sym read ∙ gave) in
    let j = cond_zero (one_byte_kind id) (content id d) 10 (λ e. omega arith) v.0 in
    let n = one_byte_length id d j.0 j.1 in
    let q : data_of (fields_of d) ≡ d = one_byte_data d n in
    let h : refusal_of id (fields_of d) ≡ 0 = rw (j.0, le-leb (length d) 1 n, q) j.1 in
    call_writes (refusal_of id f) (data_of f) b w b' answer left d (ap data_of (sym v.1) ∙ q) (ap (refusal_of id) (sym v.1) ∙ h) room
