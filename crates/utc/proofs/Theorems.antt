-- What the offset is, for any data, second and week.
use mathlib.Core.Path.{◌≡◌, refl, sym, ap, ◌∙◌}
use mathlib.Core.Bool.{Bool, true, false, not, cond, ◌&&◌, true≢false}
use mathlib.Core.List.{List}
use mathlib.Core.Logic.{inl, inr}
use mathlib.Core.Option.{Option, none, some, some-injective}
use Prim.Native.Nat.{ℕ, ◌+◌, ◌^◌, ◌≤◌}
use native.Mathlib.Omega.{arith}
use borrow.Author.Tests.{eq-eqb, ne_eqb, eqb-true, eqb-false}
use lib.Dec.{T, eqb}
use lib.ListN.{length, take, drop}
use lib.Seq.{drop_at, length-take-le, take-add, take-take}
use lib.IntN.{nat_abs}
use lib.Ieee.{Float, binary64, of_bits, of_int, is_nan}
use lib.Ieee.Scale.{finite}
use Rattle.std.specs.Prelude.{Result, Ok, Err}
use Rattle.refusals.specs.declared.Refusal.{Refusal}
use Rattle.refusals.proofs.NumberLaws.{positive, one_number}
use Rattle.octets.specs.Bytes.{byte}
use Rattle.numbers.specs.Number.{number_of, number_at}
use Rattle.numbers.specs.Signed.{int16}
use Rattle.numbers.proofs.NumberLaws.{number_in, number_one}
use Rattle.kinds.proofs.OnlyLaws.{judged_4b}
use Rattle.fields_4b.specs.Fields.{fields_of}
use Rattle.fields_4b.specs.declared.Scales.{Scales}
use Rattle.utc.specs.Offset.{elapsed, in_time, refusal_of, seconds_of, Answer, gives, refuses, answer_of, from_fields, offset_of}
use Rattle.utc.specs.Meaning.{Near, InTime, Finite, First, IsInteger, ZeroBits, SameTerms}
use Rattle.utc.specs.Meaning.First.{by_length, by_flag, by_time, by_coefficient, accepted}
use Rattle.utc.proofs.SizeLaws.{int16_size}
use Rattle.utc.proofs.ElapsedLaws.{near, within, elapsed_size}
use Rattle.utc.proofs.FloatLaws.{integer, polynomial_number}
use Rattle.utc.proofs.RefusalLaws as by
use Rattle.utc.proofs.ZeroLaws as zero

-- ---- a number and a value are one answer of the code: its contract leaves nothing free

pub settled : (o p : Result Float Refusal) → answer_of o ≡ answer_of p → o ≡ p
settled (Ok x) (Ok y) e = ap Ok (some-injective x y (ap (λ (a : Answer). a.value) e))
settled (Ok x) (Err r) e = absurd (positive r (sym (ap (λ (a : Answer). a.number) e)))
settled (Err r) (Ok y) e = absurd (positive r (ap (λ (a : Answer). a.number) e))
settled (Err r) (Err q) e = ap Err (one_number r q (ap (λ (a : Answer). a.number) e))

-- ---- the answer, by the length

offset_is : (d : List ℕ) (second week : ℕ) → offset_of d second week ≡ cond (eqb (length d) 42) (from_fields (fields_of d) second week) (refuses 11)
unfolding offset_of
offset_is d second week = rw (judged_4b d) (go (eqb (length d) 42))
  where
    go : (t : Bool) → cond (eqb (cond t 0 11) 0) (from_fields (fields_of d) second week) (refuses (cond t 0 11))
        ≡ cond t (from_fields (fields_of d) second week) (refuses 11)
    go true = refl
    go false = refl

long : (d : List ℕ) (second week : ℕ) → length d ≡ 42 → offset_of d second week ≡ from_fields (fields_of d) second week
long d second week l = offset_is d second week ∙ rw (eq-eqb (length d) 42 l)

number_fields : (f : Scales) (second week : ℕ) → (from_fields f second week).number ≡ refusal_of f second week
unfolding from_fields
number_fields f second week = go (refusal_of f second week) (eqb (refusal_of f second week) 0) refl
  where
    go : (n : ℕ) (t : Bool) → eqb n 0 ≡ t → (cond t (gives (seconds_of f second week)) (refuses n)).number ≡ n
    go n true e = sym (eqb-true n 0 e)
    go n false e = refl

-- ---- the refusals: each exactly where its question is the first that says no

differ : (t : Bool) → t ≡ true → t ≡ false → ⊥
differ t p q = true≢false (sym p ∙ q)

module _ (d : List ℕ) (second week : ℕ) where
  abbrev f : Scales
  f = fields_of d

  abbrev flag : ℕ
  flag = f.gps_reliable

  abbrev timely : Bool
  timely = in_time second f.tot week f.wnt

  abbrev numeric₀ : Bool
  numeric₀ = finite (of_bits binary64 f.a0)

  abbrev numeric₁ : Bool
  numeric₁ = finite (of_bits binary64 f.a1)

  chain : length d ≡ 42 → (a b x y : Bool) → eqb flag 255 ≡ a → timely ≡ b → numeric₀ ≡ x → numeric₁ ≡ y
      → First d second week (cond (not a) 14 (cond (not b) 15 (cond (not (x && y)) 16 0)))
  chain l false b x y p q r s = by_flag l (eqb-false flag 255 p)
  chain l true false x y p q r s = by_time l (eqb-true flag 255 p) (λ n. differ timely (within second f.tot week f.wnt n) q)
  chain l true true false y p q r s = by_coefficient l (eqb-true flag 255 p) (near second f.tot week f.wnt q) (λ g. differ numeric₀ g.0 r)
  chain l true true true false p q r s = by_coefficient l (eqb-true flag 255 p) (near second f.tot week f.wnt q) (λ g. differ numeric₁ g.1 s)
  chain l true true true true p q r s = accepted l (eqb-true flag 255 p) (near second f.tot week f.wnt q) (r, s)

  by_answer : (t : Bool) → eqb (length d) 42 ≡ t → First d second week (cond t (from_fields f second week) (refuses 11)).number
  unfolding refusal_of
  by_answer true e = rw (number_fields f second week) (chain (eqb-true (length d) 42 e) (eqb flag 255) timely numeric₀ numeric₁ refl refl refl refl)
  by_answer false e = by_length (eqb-false (length d) 42 e)

  -- the number of an answer is that of the first question that says no
  pub first : First d second week (offset_of d second week).number
  first = rw (offset_is d second week) (by_answer (eqb (length d) 42) refl)

  number : length d ≡ 42 → (offset_of d second week).number ≡ refusal_of f second week
  number l = ap (λ (a : Answer). a.number) (long d second week l) ∙ number_fields f second week

  late : (InTime f second week → ⊥) → timely ≡ false
  late x = go timely refl
    where
      go : (t : Bool) → timely ≡ t → t ≡ false
      go true e = absurd (x (near second f.tot week f.wnt e))
      go false e = refl

  not_both : (Finite f → ⊥) → numeric₀ && numeric₁ ≡ false
  not_both x = go numeric₀ numeric₁ refl refl
    where
      go : (a b : Bool) → numeric₀ ≡ a → numeric₁ ≡ b → a && b ≡ false
      go true true p q = absurd (x (p, q))
      go true false p q = refl
      go false b p q = refl

  both : Finite f → numeric₀ && numeric₁ ≡ true
  both z = rw (z.0, z.1)

  -- and no other number is
  pub exactly : (n : ℕ) → First d second week n → (offset_of d second week).number ≡ n
  exactly _ (by_length x) = ap (λ (a : Answer). a.number) (offset_is d second week) ∙ rw (ne_eqb (length d) 42 x)
  exactly _ (by_flag l x) = number l ∙ by.by_14 f second week x
  exactly _ (by_time l g x) = number l ∙ by.by_15 f second week g (late x)
  exactly _ (by_coefficient l g n x) = number l ∙ by.by_16 f second week g (within second f.tot week f.wnt n) (not_both x)
  exactly _ (accepted l g n z) = number l ∙ by.by_none f second week g (within second f.tot week f.wnt n) (both z)

  pub disjoint : (m n : ℕ) → First d second week m → First d second week n → m ≡ n
  disjoint m n a b = sym (exactly m a) ∙ exactly n b

  -- where none says no the offset is given; where one does there is none
  pub given : length d ≡ 42 → flag ≡ 255 → InTime f second week → Finite f → offset_of d second week ≡ gives (seconds_of f second week)
  given l g n z = long d second week l ∙ sym (by.given f second week (by.by_none f second week g (within second f.tot week f.wnt n) (both z)))

  pub no_offset : ((offset_of d second week).number ≡ 0 → ⊥) → (offset_of d second week).value ≡ none
  unfolding from_fields
  no_offset = rw (offset_is d second week) (go (eqb (length d) 42) (eqb (refusal_of f second week) 0))
    where
      go : (t u : Bool) → let a = cond t (cond u (gives (seconds_of f second week)) (refuses (refusal_of f second week))) (refuses 11) in
          (a.number ≡ 0 → ⊥) → a.value ≡ none
      go true true h = absurd (h refl)
      go true false h = refl
      go false u h = refl

-- ---- dt is an integer of at most 77,414,399 either way, and its float is that integer

pub elapsed_exact : (second tot week wnt : ℕ) → Near second tot week wnt
    → (nat_abs (elapsed second tot week wnt) ≤ 77414399) × IsInteger (of_int binary64 (elapsed second tot week wnt)) (elapsed second tot week wnt)
elapsed_exact second tot week wnt n =
    let e = elapsed_size second tot week wnt n in
    (e, integer (elapsed second tot week wnt) (omega (arith, e)))

-- ---- with A0 and A1 zero, of either sign, the offset is the leap count, exactly

leap_size : (d : List ℕ) → nat_abs (fields_of d).dt_ls ≤ 32768
unfolding fields_of
leap_size d = int16_size _

zero_bits : (n : ℕ) → ZeroBits n → (s : Bool) × (of_bits binary64 n ≡ zero.zero_of s)
zero_bits n (inl e) = (false, ap (of_bits binary64) e ∙ zero.plus_zero_bits)
zero_bits n (inr e) = (true, ap (of_bits binary64) e ∙ zero.minus_zero_bits)

pub exactly_leap : (d : List ℕ) (second week : ℕ) → ZeroBits (fields_of d).a0 → ZeroBits (fields_of d).a1
    → length d ≡ 42 → (fields_of d).gps_reliable ≡ 255 → InTime (fields_of d) second week
    → (offset_of d second week ≡ gives (of_int binary64 (fields_of d).dt_ls)) × IsInteger (of_int binary64 (fields_of d).dt_ls) (fields_of d).dt_ls
unfolding seconds_of
exactly_leap d second week a b l g n =
    let f = fields_of d in
    let p = zero_bits f.a0 a in
    let q = zero_bits f.a1 b in
    let dt = elapsed second f.tot week f.wnt in
    let small : nat_abs dt ≤ 2 ^ 53 = omega (arith, elapsed_size second f.tot week f.wnt n) in
    let leap : nat_abs f.dt_ls ≤ 2 ^ 53 = omega (arith, leap_size d) in (
      given d second week l g n (ap finite p.1, ap finite q.1)
          ∙ ap gives (rw (p.1, q.1) (zero.leap_alone p.0 q.0 dt f.dt_ls small leap)),
      integer f.dt_ls leap,
    )

-- ---- an announced change plays no part

pub announced : (d e : List ℕ) (second week : ℕ) → length d ≡ length e → SameTerms (fields_of d) (fields_of e) → offset_of d second week ≡ offset_of e second week
unfolding from_fields refusal_of seconds_of
announced d e second week l t =
    offset_is d second week ∙ rw (l, t.a0, t.a1, t.tot, t.wnt, t.leap, t.reliable) (sym (offset_is e second week))

-- the same by the bytes: those from 24 to 29 and from 31 on play no part
module _ (d e : List ℕ) (l : length d ≡ 42) (k : length e ≡ 42) (same : take 24 d ≡ take 24 e) where
  part : (s : List ℕ) (at n : ℕ) → length s ≡ 42 → at + n ≤ 24 → take n (drop at s) ≡ drop at (take (at + n) (take 24 s))
  part s at n q h =
      sym (drop_at (take at s) (take n (drop at s)) at (length-take-le at s (omega arith)))
      ∙ ap (drop at) (sym (take-add at n s) ∙ sym (take-take (at + n) 24 s h))

  field : (at n : ℕ) → at + n ≤ 24 → number_at d at n ≡ number_at e at n
  field at n h =
      number_in d at n (omega arith)
      ∙ ap number_of (part d at n l h ∙ ap (λ (s : List ℕ). drop at (take (at + n) s)) same ∙ sym (part e at n k h))
      ∙ sym (number_in e at n (omega arith))

  pub announced_bytes : byte d 30 ≡ byte e 30 → (second week : ℕ) → offset_of d second week ≡ offset_of e second week
  unfolding fields_of
  announced_bytes b second week =
      announced d e second week (l ∙ sym k)
      (record {
        a0 = field 0 8 (omega arith);
        a1 = field 8 8 (omega arith);
        tot = field 16 4 (omega arith);
        wnt = field 20 2 (omega arith);
        leap = ap int16 (field 22 2 (omega arith));
        reliable = number_one d 30 ∙ b ∙ sym (number_one e 30);
      })

-- ---- the offset is no NaN, so that the equation settles its bits

abbrev wild : Option Float → Bool
wild none = false
wild (some x) = is_nan x

pub number_given : (d : List ℕ) (second week : ℕ) (x : Float) → (offset_of d second week).value ≡ some x → is_nan x ≡ false
unfolding seconds_of
number_given d second week x e = sym (ap wild e) ∙ go (offset_of d second week).number refl (first d second week)
  where
    refused : (n : ℕ) → (offset_of d second week).number ≡ n → (n ≡ 0 → ⊥) → wild (offset_of d second week).value ≡ false
    refused n z h = ap wild (no_offset d second week (λ o. h (sym z ∙ o)))

    go : (n : ℕ) → (offset_of d second week).number ≡ n → First d second week n → wild (offset_of d second week).value ≡ false
    go _ z (by_length p) = refused 11 z (λ o. omega (arith, o))
    go _ z (by_flag p q) = refused 14 z (λ o. omega (arith, o))
    go _ z (by_time p q r) = refused 15 z (λ o. omega (arith, o))
    go _ z (by_coefficient p q r s) = refused 16 z (λ o. omega (arith, o))
    go _ z (accepted l g n h) =
        let f = fields_of d in
        ap (λ (a : Answer). wild a.value) (given d second week l g n h)
        ∙ polynomial_number (of_bits binary64 f.a0) (of_bits binary64 f.a1) (elapsed second f.tot week f.wnt) f.dt_ls h.0 h.1
        (omega (arith, elapsed_size second f.tot week f.wnt n)) (omega (arith, leap_size d))

-- the same of what a call returned: `f64::to_bits` asks it of its caller
pub seconds_number : (d : List ℕ) (second week : ℕ) (o : Result Float Refusal) (x : Float) → answer_of o ≡ offset_of d second week → o ≡ Ok x → T (not (is_nan x))
seconds_number d second week o x a e =
    rw (number_given d second week x (sym (ap (λ (b : Answer). b.value) a) ∙ ap (λ (p : Result Float Refusal). (answer_of p).value) e)) tt
