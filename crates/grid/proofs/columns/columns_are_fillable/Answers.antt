use Rattle.std.proofs.Common.{below_more}
use Rattle.grid.specs.Grids.{column}
use Rattle.grid.specs.Fillable.{Fillable}
use Rattle.grid.proofs.SizedWork.{fillable_column}
use Rattle.grid.proofs.columns.columns_are_fillable.Goals as goal

pub loop-j-preserved : goal.loop-j-preserved
loop-j-preserved g c =
    let s = g.F.NumberSystem.system in
    below_more (λ k. Fillable s c.args.shape.now.check_rows c.args.lost.now (column s c.args.shape.now c.args.bytes.now k)) c.loop-j.j c.loop-j.invariant
    (fillable_column c.requires.sized c.column.ensures c.args.lost.now c.args.bytes.now c.if-not-is_fillable.ensures)
