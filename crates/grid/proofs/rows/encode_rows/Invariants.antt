use Rattle.code.specs.Filling.{Encoded}
use Rattle.grid.specs.Grids.{check_symbols}
use Rattle.grid.proofs.GridWork.{RowsDone}
use Rattle.grid.proofs.rows.encode_rows.Given as goal

abbrev pub invariant-loop-r : goal.invariant-loop-r
invariant-loop-r g l =
    let s = g.F.NumberSystem.system in
    RowsDone s l.shape (Encoded s (check_symbols s l.shape)) l.r l.initial.bytes l.bytes
