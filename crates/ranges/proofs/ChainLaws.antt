-- What chains of iterators give: the pieces of a list that `chunks_exact` yields, and `all` over them and over a range.
use Rattle.std.proofs.Common.{◌≡◌, ℕ, zero, suc, ◌+◌, ◌*◌, ◌/◌, ◌≤◌, ◌<◌, List, [], ◌∷◌, ◌++◌, Bool, true, false, ◌&&◌, length, take, drop, refl, sym, ap, ◌∙◌, arith, length-append, length-drop}
use Rattle.std.specs.Iterator.{AlwaysYields}
use Rattle.std.specs.List.{list_all, range_with_len}
use Rattle.std.specs.Slice.Iter.{chunks_exact_rest, chunks_exact_size, chunks_exact_steps}
use Rattle.std.proofs.lemmas.Iterator.{YieldsList}
use Rattle.std.proofs.Math.Seq.{drop-drop, take_at, drop_at}
use Rattle.ranges.specs.Ranges.{all}

-- the first n elements of d, the n after them, and so on, k times
abbrev pub pieces : ℕ → ℕ → List ℕ → List (List ℕ)
pieces n zero d = []
pieces n (suc k) d = take n d ∷ pieces n k (drop n d)

first_piece : (n : ℕ) (d x t : List ℕ) → d ≡ x ++ t → length x ≡ n → (x ≡ take n d) × (t ≡ drop n d)
first_piece n d x t e l = rw e (sym (take_at x t n l), sym (drop_at x t n l))

yields : (n k : ℕ) (d : List ℕ) (s : _) → 0 < n → chunks_exact_size s ≡ n → chunks_exact_rest s ≡ d → k * n ≤ length d → length d < k * n + n
    → AlwaysYields (chunks_exact_steps {A = ℕ}) (λ y. y.now) s (pieces n k d)
yields n zero d s some e r low high =
    λ x j h. omega (arith, ap length (sym r ∙ h.1.0), length-append x.now (chunks_exact_rest j), h.1.1)
yields n (suc k) d s some e r low high = (
  λ j h. omega (arith, h.1.0, ap length r),
  λ x j h.
      let p = first_piece n d x.now (chunks_exact_rest j) (sym r ∙ h.1.0) (h.1.1 ∙ e) in
      (p.0, yields n k (drop n d) j some (h.0 ∙ e) p.1 (omega (arith, length-drop n d)) (omega (arith, length-drop n d))),
)

pub chunks_yield : {s : _} (n : ℕ) (d : List ℕ) → 0 < n → chunks_exact_size s ≡ n → chunks_exact_rest s ≡ d
    → YieldsList (chunks_exact_steps {A = ℕ}) (λ y. y.now) s (pieces n (length d / n) d)
chunks_yield {s} n d some e r = record { runs = yields n (length d / n) d s some e r (omega arith) (omega arith) }

-- ---- all

and_assoc : (a b c : Bool) → (a && b) && c ≡ a && (b && c)
and_assoc true b c = refl
and_assoc false b c = refl

all_front : (k : ℕ) (f : ℕ → Bool) → all (suc k) f ≡ f 0 && all k (λ i. f (suc i))
unfolding all
all_front zero f = elim (f 0) as (λ b. true && b ≡ b && true) [ true ↦ refl | false ↦ refl ]
all_front (suc k) f = ap (λ b. b && f (suc k)) (all_front k f) ∙ and_assoc (f 0) (all k (λ i. f (suc i))) (f (suc k))

pub all_pieces : (test : List ℕ → Bool) (n k : ℕ) (d : List ℕ) → list_all test (pieces n k d) ≡ all k (λ i. test (take n (drop (n * i) d)))
unfolding all
all_pieces test n zero d = refl
all_pieces test n (suc k) d =
    (λ t. test (take n (first t)) && later (all_pieces test n k (drop n d)) t) ∙ sym (all_front k (λ i. test (take n (drop (n * i) d))))
  where
    first : d ≡ drop (n * 0) d
    first = let e : 0 ≡ n * 0 = omega arith in ap (λ j. drop j d) e

    further : (i : ℕ) → drop (n * i) (drop n d) ≡ drop (n * suc i) d
    further i = let e : n + n * i ≡ n * suc i = omega arith in drop-drop (n * i) n d ∙ ap (λ j. drop j d) e

    later : list_all test (pieces n k (drop n d)) ≡ all k (λ i. test (take n (drop (n * i) (drop n d))))
        → list_all test (pieces n k (drop n d)) ≡ all k (λ i. test (take n (drop (n * suc i) d)))
    later e = e ∙ (λ t. all k (λ i. test (take n (further i t))))

pub all_range : (test : ℕ → Bool) (k a : ℕ) → list_all test (range_with_len a k) ≡ all k (λ i. test (a + i))
unfolding all
all_range test zero a = refl
all_range test (suc k) a =
    (λ t. test (first t) && later (all_range test k (a + 1)) t) ∙ sym (all_front k (λ i. test (a + i)))
  where
    first : a ≡ a + 0
    first = omega arith

    further : (i : ℕ) → a + 1 + i ≡ a + suc i
    further i = omega arith

    later : list_all test (range_with_len (a + 1) k) ≡ all k (λ i. test (a + 1 + i))
        → list_all test (range_with_len (a + 1) k) ≡ all k (λ i. test (a + suc i))
    later e = e ∙ (λ t. all k (λ i. test (further i t)))
