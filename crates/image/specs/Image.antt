-- Memory as a row of cells, and the store that it is.
use Rattle.std.specs.Prelude.{◌≡◌, ℕ, ◌+◌, ◌*◌, ◌/◌, ◌<◌, ◌≤◌, min, cond, List, ◌++◌, length, take, drop, Option, ◌==◌, nat_lt}
use Rattle.store.specs.Store.{Store, listed, good_width}
use Rattle.std.specs.declared.ops.Range.{Range}
use Rattle.image.specs.Cells.{block_of, marked, unmarked}

-- the whole cells of some bytes, at most 169; none where the width is not 1 to 88
abbrev pub places_in : ℕ → ℕ → ℕ
places_in len width = cond (good_width width) (min (len / (width + 2)) 169) 0

-- the n bytes of a cell
abbrev pub cell_at : ℕ → List ℕ → ℕ → List ℕ
cell_at n memory place = take n (drop (place * n) memory)

-- the memory with other bytes in a cell, and all else as it was
abbrev pub with_cell : ℕ → List ℕ → ℕ → List ℕ → List ℕ
with_cell n memory place cell = take (place * n) memory ++ (cell ++ drop (place * n + n) memory)

-- what a cell of n bytes holds
abbrev pub block_at : ℕ → List ℕ → ℕ → Option (List ℕ)
block_at n memory place = block_of (cell_at n memory place)

abbrev pub image_store : ℕ → List ℕ → Store
image_store width memory =
    let places = places_in (length memory) width in
    record { places = places; width = width; contents = listed places (block_at (width + 2) memory) }

-- what the memory holds after a put, and after a clear
abbrev pub memory_put : ℕ → List ℕ → ℕ → List ℕ → List ℕ
memory_put width memory place block =
    cond (nat_lt place (places_in (length memory) width))
    (cond (length block == width) (with_cell (width + 2) memory place (marked block)) memory)
    memory

abbrev pub memory_clear : ℕ → List ℕ → ℕ → List ℕ
memory_clear width memory place =
    cond (nat_lt place (places_in (length memory) width)) (with_cell (width + 2) memory place (unmarked (cell_at (width + 2) memory place))) memory

-- the cell of a place lies in the memory
pub record Cell (len width place : ℕ) (cell : Range ℕ) : Type 0 where
  pub there : place < places_in len width
  pub starts : cell.start ≡ place * (width + 2)
  pub ends : cell.end ≡ cell.start + (width + 2)
  pub within : cell.end ≤ len
