-- What is worked out from the contents of a store before anything is written.
use Rattle.std.specs.Prelude.{◌≡◌, ℕ, ◌<◌, ◌≤◌, Bool, false, cond, not, List, map, take, Some, Ok, Err, Result, slice_index_or}
use Rattle.std.specs.List.{range_with_len}
use Rattle.field.specs.Systems.{System}
use Rattle.code.specs.Codewords.{Symbols}
use Rattle.grid.specs.Grids.{data_symbols}
use Rattle.store.specs.Store.{Store, at}
use Rattle.block.specs.Layouts.{shape_of, row_count, check_rows}
use Rattle.block.specs.Conditions.{is_clean, symbols_in, word_of}
use Rattle.sector.specs.Bodies.{block_of}
use Rattle.sector.specs.Flat.{body_at}
use Rattle.sector.specs.Opening.{Contents, SameFrom}
use Rattle.sector.specs.Fillings.{condition_at, lost_at, lost_count, Filling, NoFilling}
use Rattle.sector.specs.declared.refusal.Refusal.{Refusal}
use Rattle.sector.specs.declared.refusal.Refusal.TheVariants.{Pair, Places, Width, Symbols as TooFewSymbols, Row, Length, Lost, NoContents}
use Rattle.sector.specs.declared.terms.Terms.{Terms}

module _ (s : System) (t : Terms) (P : Contents) where
  -- a flag for each row: it is lost; it is not whole
  abbrev pub lost_rows : List Bool
  lost_rows = map (lost_at s t P) (range_with_len 0 (row_count t.layout))

  abbrev pub broken_rows : List Bool
  broken_rows = map (λ r. not (is_clean (condition_at s t P r))) (range_with_len 0 (row_count t.layout))

  -- the first n rows were looked at: the flags are set, and the codewords that the rows stand for are copied
  pub record Surveyed (n : ℕ) (flat : List ℕ) (lost broken : List Bool) : Type 0 where
    pub lost_is : (r : ℕ) → r < n → slice_index_or lost r false ≡ lost_at s t P r
    pub broken_is : (r : ℕ) → r < n → slice_index_or broken r false ≡ not (is_clean (condition_at s t P r))
    pub words : (r : ℕ) → r < n → lost_at s t P r ≡ false → symbols_in s (body_at t.layout flat r) ≡ word_of s t.layout (P r)

  -- the data symbols of all rows
  abbrev pub data_of : List ℕ → List (Symbols s)
  data_of flat = map (λ r. take (data_symbols s (shape_of t.layout)) (symbols_in s (body_at t.layout flat r))) (range_with_len 0 (row_count t.layout))

  -- the lost rows are filled, or why not
  abbrev pub Recovered : List ℕ → List Bool → Result (Unit {0}) Refusal → Type 0
  Recovered flat broken (Ok u) = (lost_count s t P ≤ check_rows t.layout) × (broken ≡ broken_rows) × Filling s t P (data_of flat)
  Recovered flat broken (Err (Lost n)) = (check_rows t.layout < lost_count s t P) × (n ≡ lost_count s t P)
  Recovered flat broken (Err NoContents) = (lost_count s t P ≤ check_rows t.layout) × NoFilling s t P
  Recovered flat broken (Err Pair) = ⊥
  Recovered flat broken (Err Places) = ⊥
  Recovered flat broken (Err Width) = ⊥
  Recovered flat broken (Err TooFewSymbols) = ⊥
  Recovered flat broken (Err Row) = ⊥
  Recovered flat broken (Err Length) = ⊥

-- the rows that are flagged have their bodies written, and all other places are as they were
pub record RowsWritten (t : Terms) (flat : List ℕ) (flags : List Bool) (old new : Store) : Type 0 where
  pub places : (r : ℕ) → r < row_count t.layout
      → at new r ≡ cond (slice_index_or flags r false) (Some (block_of t.layout t.pair r (body_at t.layout flat r))) (at old r)
  pub same : SameFrom (row_count t.layout) old new
