-- The bodies of a sector one after another in one byte string.
use Rattle.std.specs.Prelude.{ℕ, ◌*◌, List, map, take, drop}
use Rattle.std.specs.List.{range_with_len}
use Rattle.block.specs.Layouts.{row_count, body_bytes}
use Rattle.block.specs.declared.layout.Layout.{Layout}

-- the body of row r
unfoldable pub body_at : Layout → List ℕ → ℕ → List ℕ
body_at l flat r = take (body_bytes l) (drop (r * body_bytes l) flat)

-- the bodies of all rows
abbrev pub bodies_of : Layout → List ℕ → List (List ℕ)
bodies_of l flat = map (body_at l flat) (range_with_len 0 (row_count l))
