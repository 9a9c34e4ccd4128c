-- A cell is a mark of two bytes and a block.
use Rattle.std.specs.Prelude.{ℕ, cond, List, ◌∷◌, drop, Some, None, Option, ◌==◌, slice_index}

-- 01h 00h mark a block
abbrev pub block_of : List ℕ → Option (List ℕ)
block_of cell = cond (slice_index cell 0 == 1) (cond (slice_index cell 1 == 0) (Some (drop 2 cell)) None) None

abbrev pub marked : List ℕ → List ℕ
marked block = 1 ∷ 0 ∷ block

-- the mark is gone, and the other bytes stay
abbrev pub unmarked : List ℕ → List ℕ
unmarked cell = 0 ∷ 0 ∷ drop 2 cell
