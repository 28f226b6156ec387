-- Document 02, Point 11: the rearrangement by column, for every header, width and number of entries.
use mathlib.Core.Bool.{Bool, true, false}
use mathlib.Core.List.{List, ◌++◌}
use mathlib.Core.Path.{◌≡◌, refl, sym, ap, ◌∙◌}
use Prim.Native.Nat.{ℕ, ◌+◌, ◌*◌, ◌-◌, ◌/◌, ◌<◌}
use native.Mathlib.Nat.{mul_comm}
use lib.ListN.{length, take, drop, take-append-drop}
use lib.Seq.{take_at, drop_at, get_or-drop}
use Rattle.octets.specs.Bytes.{byte}
use Rattle.columns.specs.Columns.{crossed, whole, count_of, by_columns, by_rows}
use Rattle.columns.proofs.ColumnLaws.{crossed_byte, crossed_back, columns_whole, rows_whole, columns_not, rows_not, header_long, behind, length_columns, length_rows}

module _ (h w : ℕ) (d : List ℕ) where
  abbrev n : ℕ
  n = count_of h w d

  -- each way undoes the other
  pub rows_columns : by_rows h w (by_columns h w d) ≡ d
  rows_columns = go (whole h w (length d)) refl
    where
      go : (t : Bool) → whole h w (length d) ≡ t → by_rows h w (by_columns h w d) ≡ d
      go false e = ap (by_rows h w) (columns_not h w d e) ∙ rows_not h w d e
      go true e =
          let x = crossed n w (drop h d) in
          let l = length_columns h w d in
          rows_whole h w (by_columns h w d) (ap (whole h w) l ∙ e)
          ∙ (λ k. take h (columns_whole h w d e k) ++ crossed w ((l k - h) / w) (drop h (columns_whole h w d e k)))
          ∙ (λ k. take_at (take h d) x h (header_long h w d e) k ++ crossed w n (drop_at (take h d) x h (header_long h w d e) k))
          ∙ ap (λ s. take h d ++ s) (crossed_back n w (drop h d) (behind h w d e))
          ∙ take-append-drop h d

  pub columns_rows : by_columns h w (by_rows h w d) ≡ d
  columns_rows = go (whole h w (length d)) refl
    where
      go : (t : Bool) → whole h w (length d) ≡ t → by_columns h w (by_rows h w d) ≡ d
      go false e = ap (by_columns h w) (rows_not h w d e) ∙ columns_not h w d e
      go true e =
          let x = crossed w n (drop h d) in
          let l = length_rows h w d in
          columns_whole h w (by_rows h w d) (ap (whole h w) l ∙ e)
          ∙ (λ k. take h (rows_whole h w d e k) ++ crossed ((l k - h) / w) w (drop h (rows_whole h w d e k)))
          ∙ (λ k. take_at (take h d) x h (header_long h w d e) k ++ crossed n w (drop_at (take h d) x h (header_long h w d e) k))
          ∙ ap (λ s. take h d ++ s) (crossed_back w n (drop h d) (behind h w d e ∙ mul_comm w n))
          ∙ take-append-drop h d

  -- of whole entries the header stays, and byte j of entry i becomes byte i of column j
  module _ (e : whole h w (length d) ≡ true) where
    pub header_stays : take h (by_columns h w d) ≡ take h d
    header_stays = ap (take h) (columns_whole h w d e) ∙ take_at (take h d) (crossed n w (drop h d)) h (header_long h w d e)

    pub byte_moves : (i j : ℕ) → i < n → j < w → byte (by_columns h w d) (h + (n * j + i)) ≡ byte d (h + (w * i + j))
    byte_moves i j p q =
        sym (get_or-drop h (by_columns h w d) (n * j + i) 0)
        ∙ ap (λ s. byte (drop h s) (n * j + i)) (columns_whole h w d e)
        ∙ ap (λ s. byte s (n * j + i)) (drop_at (take h d) (crossed n w (drop h d)) h (header_long h w d e))
        ∙ crossed_byte n w (drop h d) i j p q
        ∙ get_or-drop h d (w * i + j) 0
