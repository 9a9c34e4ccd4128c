use Rattle.std.proofs.Common.{rules, arith}
use Rattle.grid.specs.Grids.{RowsFilled}
use Rattle.grid.specs.Fillable.{FilledIf}
use Rattle.grid.proofs.SizedWork.{column_within, column_step}
use Rattle.grid.proofs.columns.fill_rows.Goals as goal

pub fill-requires-clause-within : goal.fill-requires-clause-within
fill-requires-clause-within g c =
    column_within c.in_ok-grid.ensures c.column.ensures c.loop-j-test.true c.loop-j.auto.bytes

pub loop-j-preserved : goal.loop-j-preserved
loop-j-preserved g c =
    column_step c.in_ok-grid.ensures c.column.ensures (λ n. FilledIf g.F.NumberSystem.system n c.args.lost.now) c.loop-j-test.true c.loop-j.invariant c.fill.auto.bytes c.fill.ensures

pub returns : goal.returns
returns g c =
    let s = g.F.NumberSystem.system in
    let e = c.in_ok-grid.ensures.data_columns in
    let filled : RowsFilled s c.args.shape.now c.args.lost.now c.args.bytes.now c.loop-j.bytes =
    record {
      long = c.loop-j.invariant.long;
      each = λ j l. c.loop-j.invariant.done j (omega arith) (c.if-not-columns_are_fillable.ensures j l);
      others = λ j l m. c.loop-j.invariant.todo j (omega arith) m;
    }
    in
    search rules
