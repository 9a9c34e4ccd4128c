-- The grid of a shape that fits, and its lines.
use Rattle.std.specs.Prelude.{◌≡◌, ℕ, ◌*◌, ◌-◌, ◌<◌, Bool, true, false, List, Ok, Err, Result}
use Rattle.field.specs.Systems.{System}
use Rattle.code.specs.declared.error.CodeError.{CodeError}
use Rattle.grid.specs.Grids.{rows_of, row_bytes, row_symbols, data_symbols, column, fitting}
use Rattle.grid.specs.Fillable.{Fillable}
use Rattle.grid.specs.declared.shape.Shape.{Shape}
use Rattle.grid.specs.declared.shape.Grid.{Grid}
use Rattle.grid.specs.declared.lines.Line.{Line}

module _ (s : System) where
  -- the grid of a shape that fits so many bytes
  pub record Sized (sh : Shape) (bytes : ℕ) (g : Grid) : Type 0 where
    pub fits : fitting s sh bytes ≡ Ok tt
    pub rows : g.rows ≡ rows_of sh
    pub check_rows : g.check_rows ≡ sh.check_rows
    pub columns : g.columns ≡ row_symbols s sh
    pub data_columns : g.data_columns ≡ data_symbols s sh
    pub few : rows_of sh < s.order
    pub short : row_symbols s sh < s.order
    pub long : bytes ≡ rows_of sh * row_bytes sh

  abbrev pub Measured : Shape → ℕ → Result Grid CodeError → Type 0
  Measured sh bytes (Ok g) = Sized sh bytes g
  Measured sh bytes (Err e) = fitting s sh bytes ≡ Err e

  -- whether the lost rows can be filled in every column: where not, some column shows it
  abbrev pub AllFillable : Shape → List Bool → List ℕ → Bool → Type 0
  AllFillable sh lost bytes true = (j : ℕ) → j < data_symbols s sh → Fillable s sh.check_rows lost (column s sh bytes j)
  AllFillable sh lost bytes false = (j : ℕ) × (j < data_symbols s sh) × (Fillable s sh.check_rows lost (column s sh bytes j) → ⊥)

-- the line of the symbols of row r
pub record IsRow (g : Grid) (r : ℕ) (l : Line) : Type 0 where
  pub start : l.start ≡ r * g.columns
  pub step : l.step ≡ 1
  pub len : l.len ≡ g.columns
  pub checks : l.checks ≡ g.columns - g.data_columns

-- the line of the symbols at place j of all rows
pub record IsColumn (g : Grid) (j : ℕ) (l : Line) : Type 0 where
  pub start : l.start ≡ j
  pub step : l.step ≡ g.columns
  pub len : l.len ≡ g.rows
  pub checks : l.checks ≡ g.check_rows

-- the line of the syndromes of column j, in rows as long as the data
pub record IsSyndromes (g : Grid) (j : ℕ) (l : Line) : Type 0 where
  pub start : l.start ≡ j
  pub step : l.step ≡ g.data_columns
  pub len : l.len ≡ g.check_rows
