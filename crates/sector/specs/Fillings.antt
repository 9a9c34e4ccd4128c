-- Lost rows, and the contents of them that make every column a codeword.
use Rattle.std.specs.Prelude.{◌≡◌, ℕ, ◌<◌, Bool, false, not, List, [], map, length, take, slice_index_or}
use Rattle.std.specs.List.{range_with_len}
use Rattle.field.specs.Systems.{System}
use Rattle.code.specs.Codewords.{Symbols, Codeword, count}
use Rattle.grid.specs.Grids.{data_symbols}
use Rattle.block.specs.Layouts.{shape_of, row_count, check_rows}
use Rattle.block.specs.Conditions.{condition, word_of, is_lost, is_clean}
use Rattle.block.specs.declared.condition.Condition.{Condition}
use Rattle.sector.specs.Bodies.{column_in}
use Rattle.sector.specs.Opening.{Contents}
use Rattle.sector.specs.declared.terms.Terms.{Terms}

module _ (s : System) (t : Terms) (P : Contents) where
  abbrev pub condition_at : ℕ → Condition
  condition_at r = condition s t.layout t.pair r (P r)

  abbrev pub lost_at : ℕ → Bool
  lost_at r = is_lost (condition_at r)

  -- how many rows are lost
  abbrev pub lost_count : ℕ
  lost_count = count (map lost_at (range_with_len 0 (row_count t.layout)))

  -- how many rows are not whole
  abbrev pub broken_count : ℕ
  broken_count = count (map (λ r. not (is_clean (condition_at r))) (range_with_len 0 (row_count t.layout)))

  -- data symbols for every row, those of the rows that are not lost as corrected, with which every column is a codeword
  pub record Filling (rows : List (Symbols s)) : Type 0 where
    pub many : length rows ≡ row_count t.layout
    pub long : (r : ℕ) → r < row_count t.layout → length (slice_index_or rows r []) ≡ data_symbols s (shape_of t.layout)
    pub kept : (r : ℕ) → r < row_count t.layout → lost_at r ≡ false
        → slice_index_or rows r [] ≡ take (data_symbols s (shape_of t.layout)) (word_of s t.layout (P r))
    pub columns : (j : ℕ) → j < data_symbols s (shape_of t.layout) → Codeword s (check_rows t.layout) (column_in s j rows)

  abbrev pub NoFilling : Type 0
  NoFilling = (rows : List (Symbols s)) → Filling rows → ⊥
