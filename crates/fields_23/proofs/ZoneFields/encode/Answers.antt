-- `encode` meets its contract: the words and their widths are those of the rows, as many as the count says.
use Rattle.std.proofs.Common.{◌≡◌, refl, sym, ap, ◌∙◌, List, [], ◌∷◌, ℕ, zero, suc, arith, take, take_all, min}
use Rattle.encoding.specs.Encoding.{encoded_of, encoded_into}
use Rattle.rows.specs.Layout.{words, joined, laid, total, short, packs, packed}
use Rattle.fields_23.specs.Fields.{all_rows, data_of}
use Rattle.fields_23.specs.declared.Zone.{Zone}
use Rattle.fields_23.proofs.ZoneFields.encode.Goals as goal

counted : (f : Zone) (n : ℕ) → packed (take (min n 3) (1 ∷ 1 ∷ 1 ∷ [])) (words (all_rows f)) ≡ joined (take n (all_rows f))
unfolding joined laid total short packs packed
counted f zero = refl
counted f (suc zero) = refl
counted f (suc (suc zero)) = refl
counted f (suc (suc (suc n))) =
    let m = suc (suc (suc n)) in
    let e : min m 3 ≡ 3 = omega arith in
    ap (λ (k : ℕ). packed (take k (1 ∷ 1 ∷ 1 ∷ [])) (words (all_rows f))) e ∙ ap joined (sym (take_all m (all_rows f) (omega arith)))

pub returns : goal.returns
unfolding data_of
returns c =
    let a = c.args in
    let q : packed (take c.min-count.result (1 ∷ 1 ∷ 1 ∷ [])) c.words_of.result ≡ data_of a.self =
    (λ k. packed (take (c.min-count.ensures k) (1 ∷ 1 ∷ 1 ∷ [])) (c.words_of.ensures k)) ∙ counted a.self a.self.count in (
      c.encode.ensures.0 ∙ ap (λ (t : List ℕ). encoded_of 0x23 t a.buf.now) q,
      c.encode.ensures.1 ∙ ap (λ (t : List ℕ). encoded_into 0x23 t a.buf.now) q,
    )
