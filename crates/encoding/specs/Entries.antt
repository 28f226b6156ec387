-- Entries: a header, then entries of one width, at most so many. How they are read and laid out, over any header and width.
use Rattle.std.specs.Prelude.{cond, ◌≡◌, ◌<◌, List, [], ◌∷◌, ◌++◌, ℕ, zero, suc, ◌+◌, ◌*◌, ◌-◌, ◌/◌, min, length, take, drop, get_or, replicate}
use Rattle.octets.specs.Placing.{fits, placed}

-- the entries of a kind: their place and number, and each from its bytes and as its bytes
pub record Series (E : Type 0) : Type 0 where
  pub header : ℕ
  pub width : ℕ
  pub most : ℕ
  pub blank : E
  pub entry_of : List ℕ → E
  pub entry_data : E → List ℕ

-- f 0, f 1, .. f (n - 1)
unfoldable pub firsts : {A : Type 0} → (ℕ → A) → ℕ → List A
firsts f zero = []
firsts f (suc n) = firsts f n ++ (f n ∷ [])

-- the bytes of g 0, g 1, .. g (n - 1), one after the other
unfoldable pub laid_out : (ℕ → List ℕ) → ℕ → List ℕ
laid_out g zero = []
laid_out g (suc n) = laid_out g n ++ g n

module _ {E : Type 0} (s : Series E) where
  -- the bytes of the entry at an index
  abbrev pub entry_slice : List ℕ → ℕ → List ℕ
  entry_slice d i = take s.width (drop (s.header + s.width * i) d)

  -- the first n entries of data; those past them, up to the most, are blank
  abbrev pub entries_of : List ℕ → ℕ → List E
  entries_of d n = firsts (λ i. s.entry_of (entry_slice d i)) n ++ replicate (s.most - n) s.blank

  -- the bytes of the first n entries
  abbrev pub entries_data : List E → ℕ → List ℕ
  entries_data es n = laid_out (λ i. s.entry_data (get_or es i s.blank)) n

  -- each of the first n entries takes as many bytes as the width says
  abbrev pub Long : List E → ℕ → Type 0
  Long es n = (i : ℕ) → i < n → length (s.entry_data (get_or es i s.blank)) ≡ s.width

  -- the first n entries, and blank ones past them
  abbrev pub kept_entries : List E → ℕ → List E
  kept_entries es n = take n es ++ replicate (s.most - n) s.blank

  -- the entries that some bytes hold, at most so many, and blank ones past them
  abbrev pub entries_in : ℕ → List ℕ → List E
  entries_in most d =
      let n = min (length d / s.width) most in
      firsts (λ i. s.entry_of (take s.width (drop (s.width * i) d))) n ++ replicate (most - n) s.blank

  -- a buffer with the bytes of entries at its start, where it has room for as many; else as it was
  abbrev pub entries_into : List E → List ℕ → List ℕ
  entries_into es b = cond (fits b 0 (s.width * length es)) (placed b 0 (entries_data es (length es))) b
