-- The bodies of a sector's rows, and when they are closed: every body and every column of data symbols is a codeword.
use Rattle.std.specs.Prelude.{◌≡◌, ℕ, ◌<◌, List, [], ◌++◌, map, length, get_or, take, slice_index_or}
use Rattle.byte_string.specs.Bytes.{Bytes}
use Rattle.field.specs.Systems.{System}
use Rattle.code.specs.Codewords.{Symbols, Codeword}
use Rattle.grid.specs.Grids.{row_symbols, data_symbols, check_symbols}
use Rattle.block.specs.Layouts.{shape_of, row_count, data_rows, check_rows, data_bytes, body_bytes}
use Rattle.block.specs.Identification.{id_of}
use Rattle.block.specs.Conditions.{symbols_in}
use Rattle.block.specs.declared.layout.Layout.{Layout}

-- the block of a row with such a body, as it is written
abbrev pub block_of : Layout → ℕ → ℕ → List ℕ → List ℕ
block_of l pair row body = id_of l pair row ++ body

-- the symbols at place j of some rows
abbrev pub column_in : (s : System) → ℕ → List (Symbols s) → Symbols s
column_in s j rows = map (λ (xs : Symbols s). get_or xs j s.on.nil) rows

module _ (s : System) (l : Layout) where
  -- a body of the row code: so many bytes, whose symbols are a codeword
  pub record Body (body : List ℕ) : Type 0 where
    pub long : length body ≡ body_bytes l
    pub bytes : Bytes body
    pub codeword : Codeword s (check_symbols s (shape_of l)) (symbols_in s body)

  -- the bodies of a closed sector with given data rows
  pub record Closed (rows : ℕ → List ℕ) (bodies : List (List ℕ)) : Type 0 where
    pub many : length bodies ≡ row_count l
    pub each : (r : ℕ) → r < row_count l → Body (slice_index_or bodies r [])
    pub front : (r : ℕ) → r < data_rows l → take (data_bytes l) (slice_index_or bodies r []) ≡ rows r
    pub columns : (j : ℕ) → j < data_symbols s (shape_of l) → Codeword s (check_rows l) (column_in s j (map (symbols_in s) bodies))

  -- data rows have at most one closed sector
  abbrev pub ClosedIsOne : Type 0
  ClosedIsOne =
      (rows : ℕ → List ℕ) (a b : List (List ℕ)) → row_count l < s.order → row_symbols s (shape_of l) < s.order → Closed rows a → Closed rows b → a ≡ b
