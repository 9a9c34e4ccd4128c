-- A grid of symbols kept in bytes: rows of data bytes and check bytes, data rows and then check rows.
use Rattle.std.specs.Prelude.{◌≡◌, ℕ, ◌+◌, ◌*◌, ◌<◌, ◌≤◌, Bool, false, cond, List, map, length, Ok, Err, Result, ◌==◌, nat_lt, slice_index_or}
use Rattle.std.specs.List.{range_with_len}
use Rattle.field.specs.Systems.{System}
use Rattle.code.specs.Codewords.{Codeword, Tells, symbols, syndrome_of}
use Rattle.code.specs.Filling.{Filled, Encoded}
use Rattle.code.specs.declared.error.CodeError.{CodeError}
use Rattle.code.specs.declared.error.CodeError.TheVariants.{UnequalLengths, TooLong}
use Rattle.grid.specs.Packing.{symbol_at}
use Rattle.grid.specs.declared.shape.Shape.{Shape}

abbrev pub rows_of : Shape → ℕ
rows_of sh = sh.data_rows + sh.check_rows

abbrev pub row_bytes : Shape → ℕ
row_bytes sh = sh.data_bytes + sh.check_bytes

module _ (s : System) where
  -- how many symbols a row has, and how many of them are data symbols and check symbols
  abbrev pub row_symbols : Shape → ℕ
  row_symbols sh = row_bytes sh * s.per

  abbrev pub data_symbols : Shape → ℕ
  data_symbols sh = sh.data_bytes * s.per

  abbrev pub check_symbols : Shape → ℕ
  check_symbols sh = sh.check_bytes * s.per

  -- a grid of so many bytes can be worked on: rows and columns have at most q - 1 symbols, and the bytes are those of the rows
  abbrev pub fitting : Shape → ℕ → Result (Unit {0}) CodeError
  fitting sh bytes =
      cond (nat_lt (rows_of sh) s.order)
      (cond (nat_lt (row_symbols sh) s.order) (cond (bytes == rows_of sh * row_bytes sh) (Ok tt) (Err UnequalLengths)) (Err TooLong))
      (Err TooLong)

  -- n symbols of a byte string, from one place on and each so many places after the one before
  unfoldable pub line : List ℕ → ℕ → ℕ → ℕ → List ℕ
  line bytes start step n = map (λ i. symbol_at s bytes (i * step + start)) (range_with_len 0 n)

  -- the symbols of row r
  abbrev pub row : Shape → List ℕ → ℕ → List ℕ
  row sh bytes r = line bytes (r * row_symbols sh) 1 (row_symbols sh)

  -- the symbols at place j of all rows
  abbrev pub column : Shape → List ℕ → ℕ → List ℕ
  column sh bytes j = line bytes j (row_symbols sh) (rows_of sh)

  -- every row has the only check symbols that make it a codeword, and its data symbols as they were
  pub record RowsEncoded (sh : Shape) (old new : List ℕ) : Type 0 where
    pub long : length new ≡ length old
    pub each : (r : ℕ) → r < rows_of sh → Encoded s (check_symbols sh) (row sh old r) (row sh new r)

  -- the columns of check bytes are as they were
  abbrev pub ChecksKept : Shape → List ℕ → List ℕ → Type 0
  ChecksKept sh old new = (j : ℕ) → data_symbols sh ≤ j → j < row_symbols sh → column sh new j ≡ column sh old j

  -- every column of data symbols has the only check rows that make it a codeword, and its data rows as they were
  pub record ColumnsEncoded (sh : Shape) (old new : List ℕ) : Type 0 where
    pub long : length new ≡ length old
    pub each : (j : ℕ) → j < data_symbols sh → Encoded s sh.check_rows (column sh old j) (column sh new j)
    pub others : ChecksKept sh old new

  -- the lost rows have the only data symbols that make every column a codeword, and the others are as they were
  pub record RowsFilled (sh : Shape) (lost : List Bool) (old new : List ℕ) : Type 0 where
    pub long : length new ≡ length old
    pub each : (j : ℕ) → j < data_symbols sh → Filled s sh.check_rows lost (column sh old j) (column sh new j)
    pub others : ChecksKept sh old new

  -- which rows are codewords
  pub record RowsJudged (sh : Shape) (bytes : List ℕ) (flags : List Bool) : Type 0 where
    pub each : (r : ℕ) → r < rows_of sh
        → Tells (slice_index_or flags r false) (Codeword s (check_symbols sh) (symbols s (row sh bytes r)))

  -- row i of the syndromes has at place j syndrome i of column j
  pub record SyndromesOf (sh : Shape) (bytes syndromes : List ℕ) : Type 0 where
    pub each : (i j : ℕ) → i < sh.check_rows → j < data_symbols sh → symbol_at s syndromes (i * data_symbols sh + j) ≡ syndrome_of s i (column sh bytes j)
