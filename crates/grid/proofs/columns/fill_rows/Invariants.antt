use Rattle.grid.specs.Fillable.{FilledIf}
use Rattle.grid.proofs.GridWork.{ColumnsDone}
use Rattle.grid.proofs.columns.fill_rows.Given as goal

abbrev pub invariant-loop-j : goal.invariant-loop-j
invariant-loop-j g l =
    let s = g.F.NumberSystem.system in
    ColumnsDone s l.shape (FilledIf s l.shape.check_rows l.lost) l.j l.initial.bytes l.bytes
