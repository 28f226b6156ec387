-- How many bits of a word are set: their sum, which for the word of acceptable data is how many triples enable.
use mathlib.Core.Path.{◌≡◌, refl, sym, ap, ap₂, ◌∙◌}
use mathlib.Core.Bool.{Bool}
use mathlib.Core.List.{List}
use Prim.Native.Nat.{ℕ, zero, suc, ◌+◌, ◌/◌, ◌%◌, ◌^◌, ◌≤◌, ◌<◌}
use native.Mathlib.Nat.{add_comm, mod-lt, mod-eq_of_lt, mod-one}
use native.Mathlib.Numerals.{one-add}
use native.Mathlib.Omega.{arith}
use lib.Count.{ones, ones_cat}
use lib.Dec.{eqb}
use lib.Pow.{mod-pow-add, pow_pos}
use Rattle.satellites.specs.Sets.{bit}
use Rattle.ranges.specs.Ranges.{count}
use Rattle.ranges.proofs.CountLaws.{sum, sum_same, sum_counts, count_apart}
use Rattle.kinds.specs.Kinds.{content}
use Rattle.in_use.specs.InUse.{triple_at, bit_of, enables, word_of}
use Rattle.in_use.specs.Meaning.{enabled_in}
use Rattle.in_use.proofs.SetLaws.{any_count}
use Rattle.in_use.proofs.WordLaws.{bit_of_lt, one_triple, word_lt, bit_word, enabled_is}

ones_bit : (r : ℕ) → r < 2 → ones r ≡ r
unfolding ones
ones_bit zero h = refl
ones_bit (suc zero) h = refl
ones_bit (suc (suc r)) h = absurd (omega arith)

-- the ones among the lowest n bits
ones_sum : (n w : ℕ) → ones (w % 2 ^ n) ≡ sum n (bit w)
unfolding ones sum
ones_sum zero w = ap ones (mod-one w)
ones_sum (suc n) w =
    ap (λ (k : ℕ). ones (w % 2 ^ k)) (sym (one-add n))
    ∙ ap ones (mod-pow-add w 1 n)
    ∙ ones_cat n (bit w n) (w % 2 ^ n) (mod-lt w (pow_pos n))
    ∙ ap₂ (λ (x y : ℕ). x + y) (ones_bit (bit w n) (mod-lt (w / 2 ^ n) (omega arith))) (ones_sum n w)
    ∙ add_comm (bit w n) (sum n (bit w))

pub counted : (d : List ℕ) → content 0x47 d ≡ 0 → ones (word_of d) ≡ enabled_in d
counted d ok =
    ap ones (sym (mod-eq_of_lt (word_lt d)))
    ∙ ones_sum 56 (word_of d)
    ∙ sum_same 56 (bit (word_of d)) (λ p. count 56 (test p)) (λ p l. bit_word d p l ∙ any_count 56 (test p) (most p))
    ∙ sum_counts 56 56 (λ i. eqb (triple_at d i).used 1) (λ i. bit_of (triple_at d i)) (bit_of_lt d ok)
  where
    test : ℕ → ℕ → Bool
    test p i = enables (triple_at d i) p

    most : (p : ℕ) → count 56 (test p) ≤ 1
    most p =
        count_apart 56 (test p) (λ i j k l x y.
        one_triple d ok i j k l ((enabled_is (triple_at d i) p x).1 ∙ sym (enabled_is (triple_at d j) p y).1))
