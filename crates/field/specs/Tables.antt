-- Tables in rows of eight.
use Rattle.std.specs.Prelude.{◌≡◌, ℕ, ◌/◌, ◌%◌, List, [], slice_index, slice_index_or}

-- the entry number i of a table
abbrev pub entry_at : List (List ℕ) → ℕ → ℕ
entry_at rows i = slice_index (slice_index_or rows (i / 8) []) (i % 8)

pub record Entry (rows : List (List ℕ)) (i r : ℕ) : Type 0 where
  pub is : r ≡ entry_at rows i
