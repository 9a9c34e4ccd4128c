use Rattle.code.specs.Filling.{Encoded}
use Rattle.grid.proofs.GridWork.{ColumnsDone}
use Rattle.grid.proofs.columns.encode_columns.Given as goal

abbrev pub invariant-loop-j : goal.invariant-loop-j
invariant-loop-j g l =
    let s = g.F.NumberSystem.system in
    ColumnsDone s l.shape (Encoded s l.shape.check_rows) l.j l.initial.bytes l.bytes
