-- Laws of both ways: the word of a word's data, and the data of the word of data.
use mathlib.Core.Path.{◌≡◌, refl, sym, ap, ◌∙◌}
use mathlib.Core.Bool.{Bool, true, false, cond}
use mathlib.Core.List.{List}
use Prim.Native.Nat.{ℕ, ◌^◌, ◌≤◌, ◌<◌}
use native.Mathlib.Omega.{arith}
use borrow.Author.Tests.{eqb-true, eqb-false}
use lib.Dec.{eqb}
use Rattle.satellites.specs.Satellites.{place_of}
use Rattle.satellites.specs.Sets.{bit}
use Rattle.satellites.proofs.SatelliteLaws.{AtPlace, at_place}
use Rattle.satellites.proofs.BitLaws.{bits_same}
use Rattle.kinds.specs.Kinds.{content}
use Rattle.fields_47.specs.declared.Use.{Use}
use Rattle.in_use.specs.InUse.{triple_at, bit_of, word_of, data_of}
use Rattle.in_use.specs.Meaning.{Stands, Contained}
use Rattle.in_use.proofs.SetLaws.{flag}
use Rattle.in_use.proofs.WordLaws.{satellite_there, bit_of_lt, use_is, some_triple, word_lt, used_bit}
use Rattle.in_use.proofs.DataLaws.{triple_data, data_good}

-- a use, by whether the satellite is enabled
abbrev usage : Bool → ℕ
usage t = cond t 1 2

pub read_word : (w : ℕ) → w < 2 ^ 56 → word_of (data_of w) ≡ w
read_word w l = bits_same 56 (word_of (data_of w)) w (word_lt (data_of w)) l (λ p k. go p k (at_place p k))
  where
    twice : (b : ℕ) → b ≤ 1 → flag (eqb (usage (eqb b 1)) 1) ≡ b
    twice b h = by (eqb b 1) refl
      where
        by : (t : Bool) → eqb b 1 ≡ t → flag (eqb (usage t) 1) ≡ b
        by true e = sym (eqb-true b 1 e)
        by false e = let z = eqb-false b 1 e in omega arith

    go : (p : ℕ) → p < 56 → AtPlace p → bit (word_of (data_of w)) p ≡ bit w p
    go p k a =
        let t = triple_data w p k a in
        ap (bit (word_of (data_of w))) (sym a.its_place ∙ ap bit_of (sym t))
        ∙ used_bit (data_of w) (data_good w) p k
        ∙ ap (λ (u : Use). flag (eqb u.used 1)) t
        ∙ twice (bit w (place_of a.system a.number)) (omega arith)
        ∙ ap (bit w) a.its_place

module _ (d : List ℕ) (ok : content 0x47 d ≡ 0) where
  -- each triple of the data stands at its own place in what is written from its word
  rewritten_at : (i : ℕ) → i < 56 → triple_at (data_of (word_of d)) (bit_of (triple_at d i)) ≡ triple_at d i
  rewritten_at i l =
      triple_data (word_of d) (bit_of t) (bit_of_lt d ok i l)
      (record { system = t.system; number = t.number; there = satellite_there d ok i l; its_place = refl })
      ∙ (λ k. record { system = t.system; number = t.number; used = same k })
    where
      t : Use
      t = triple_at d i

      twice : (b : Bool) → usage (eqb (flag b) 1) ≡ usage b
      twice true = refl
      twice false = refl

      same : usage (eqb (bit (word_of d) (bit_of t)) 1) ≡ t.used
      same =
          ap (λ (x : ℕ). usage (eqb x 1)) (used_bit d ok i l) ∙ twice (eqb t.used 1) ∙ sym (use_is d ok i l)

  pub holds_all : Contained d (data_of (word_of d))
  holds_all i l = record { index = bit_of (triple_at d i); within = bit_of_lt d ok i l; there = rewritten_at i l }

  pub holds_only : Contained (data_of (word_of d)) d
  holds_only p l = go (some_triple d ok p l)
    where
      go : (i : ℕ) × (i < 56) × (bit_of (triple_at d i) ≡ p) → Stands (triple_at (data_of (word_of d)) p) d
      go (i, k, e) =
          record { index = i; within = k; there = sym (rewritten_at i k) ∙ ap (triple_at (data_of (word_of d))) e }
