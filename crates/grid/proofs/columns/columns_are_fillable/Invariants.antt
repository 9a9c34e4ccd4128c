use Rattle.std.proofs.Common.{ℕ, ◌<◌}
use Rattle.grid.specs.Grids.{column}
use Rattle.grid.specs.Fillable.{Fillable}
use Rattle.grid.proofs.columns.columns_are_fillable.Given as goal

abbrev pub invariant-loop-j : goal.invariant-loop-j
invariant-loop-j g l =
    let s = g.F.NumberSystem.system in
    (k : ℕ) → k < l.j → Fillable s l.shape.check_rows l.lost (column s l.shape l.bytes k)
