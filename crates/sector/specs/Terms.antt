-- The terms of a sector, and what every call tests first.
use Rattle.std.specs.Prelude.{◌≡◌, ℕ, ◌<◌, ◌≤◌, Bool, ◌&&◌, List, [], length, ◌==◌, nat_le, nat_lt}
use Rattle.field.specs.Systems.{System}
use Rattle.grid.specs.Grids.{row_symbols}
use Rattle.store.specs.Store.{Store}
use Rattle.block.specs.Layouts.{shape_of, row_count, data_rows, data_bytes, block_width}
use Rattle.sector.specs.Answers.{Answer, taken, guarded, is_taken}
use Rattle.sector.specs.declared.terms.Terms.{Terms}

module _ (s : System) (t : Terms) where
  -- the terms fit: the track pair is one of twelve, the store has a place for every row and blocks of the layout's width, and
  -- rows and columns have no more symbols than there are locators
  abbrev pub fitted : Store → Answer → Answer
  fitted st a =
      guarded (nat_le t.pair 11) 3
      (guarded (nat_le (row_count t.layout) st.places) 4
      (guarded (st.width == block_width t.layout) 5
      (guarded (nat_lt (row_count t.layout) s.order && nat_lt (row_symbols s (shape_of t.layout)) s.order) 6 a)))

  abbrev pub fits : Store → Bool
  fits st = is_taken (fitted st (taken []))

  -- the row is a data row, and the data are as long as its data bytes
  abbrev pub data_guards : Store → ℕ → List ℕ → Answer
  data_guards st row bytes = fitted st (guarded (nat_lt row (data_rows t.layout)) 7 (guarded (length bytes == data_bytes t.layout) 8 (taken [])))

  -- the row is a row
  abbrev pub row_guards : Store → ℕ → Answer → Answer
  row_guards st row a = fitted st (guarded (nat_lt row (row_count t.layout)) 7 a)

  -- the row is a row, and the block has the layout's width
  abbrev pub block_guards : Store → ℕ → List ℕ → Answer
  block_guards st row block = row_guards st row (guarded (length block == block_width t.layout) 8 (taken []))

  -- the same, test by test
  pub record Fits (st : Store) : Type 0 where
    pub pair : t.pair ≤ 11
    pub room : row_count t.layout ≤ st.places
    pub wide : st.width ≡ block_width t.layout
    pub few : row_count t.layout < s.order
    pub short : row_symbols s (shape_of t.layout) < s.order
