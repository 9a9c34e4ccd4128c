-- The three layouts of sectors: the number of the first block, and how many data rows, check rows, data bytes and check bytes.
use Rattle.std.specs.Prelude.{ℕ, ◌+◌}
use Rattle.grid.specs.Grids.{rows_of, row_bytes}
use Rattle.grid.specs.declared.shape.Shape.{Shape}
use Rattle.block.specs.declared.layout.Layout.{Layout}
use Rattle.block.specs.declared.layout.Layout.TheVariants.{Audio, Video, Subcode}

abbrev pub first_block : Layout → ℕ
first_block Audio = 2
first_block Video = 19
first_block Subcode = 0

abbrev pub shape_of : Layout → Shape
shape_of Audio = record { data_rows = 9; check_rows = 5; data_bytes = 77; check_bytes = 8 }
shape_of Video = record { data_rows = 138; check_rows = 11; data_bytes = 77; check_bytes = 8 }
shape_of Subcode = record { data_rows = 12; check_rows = 0; data_bytes = 5; check_bytes = 2 }

-- data rows and check rows
abbrev pub row_count : Layout → ℕ
row_count l = rows_of (shape_of l)

abbrev pub data_rows : Layout → ℕ
data_rows l = (shape_of l).data_rows

abbrev pub check_rows : Layout → ℕ
check_rows l = (shape_of l).check_rows

abbrev pub data_bytes : Layout → ℕ
data_bytes l = (shape_of l).data_bytes

-- the bytes of a body: data bytes and check bytes
abbrev pub body_bytes : Layout → ℕ
body_bytes l = row_bytes (shape_of l)

-- the bytes of a block: three identification bytes and the body
abbrev pub block_width : Layout → ℕ
block_width l = 3 + body_bytes l
