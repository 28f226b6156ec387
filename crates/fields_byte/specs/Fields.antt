-- Document 01, the kinds of no byte, and those of one byte or none. An identifier outside the family is refused by 10.
use Rattle.std.specs.Prelude.{Bool, cond, ◌||◌, List, [], ◌∷◌, ℕ, eqb, leb, length, take, Result, Ok, Err}
use Rattle.octets.specs.Bytes.{byte}
use Rattle.kinds.specs.Kinds.{content}
use Rattle.fields_byte.specs.declared.OneByte.{OneByte}

-- 1Bh, 1Eh, 26h, 54h: 0 bytes
abbrev pub empty_kind : ℕ → Bool
empty_kind id = eqb id 0x1B || eqb id 0x1E || eqb id 0x26 || eqb id 0x54

-- 21h, 24h, 27h, 2Ah: 0/1, any value; 1Fh: 0/1, value 0 or 1; F4h: 1, any value
abbrev pub one_byte_kind : ℕ → Bool
one_byte_kind id = eqb id 0x21 || eqb id 0x24 || eqb id 0x27 || eqb id 0x2A || eqb id 0x1F || eqb id 0xF4

-- questions 10 to 12, asked by a family
abbrev pub family_refusal : Bool → ℕ → List ℕ → ℕ
family_refusal inside id d = cond inside (content id d) 10

-- what decoding answers, by the number v of questions 10 to 12
abbrev pub answered : {A : Type 0} → ℕ → A → Result A ℕ
answered v a = cond (eqb v 0) (Ok a) (Err v)

-- without the byte the value is 0
abbrev pub fields_of : List ℕ → OneByte
fields_of d = record { count = length d; value = byte d 0 }

-- the value is ignored where the count is 0
abbrev pub data_of : OneByte → List ℕ
data_of f = take f.count (f.value ∷ [])

-- a kind without data has no fields
unfoldable pub decoded_empty_of : ℕ → List ℕ → Result (Unit {0}) ℕ
decoded_empty_of id d = answered (family_refusal (empty_kind id) id d) tt

unfoldable pub decoded_of : ℕ → List ℕ → Result OneByte ℕ
decoded_of id d = answered (family_refusal (one_byte_kind id) id d) (fields_of d)

-- fields of a kind without data: none
abbrev pub empty_refusal : ℕ → ℕ
empty_refusal id = family_refusal (empty_kind id) id []

-- fields are refused by 11 where the count is above 1, else as their data is
unfoldable pub refusal_of : ℕ → OneByte → ℕ
refusal_of id f = cond (one_byte_kind id) (cond (leb f.count 1) (content id (data_of f)) 11) 10
