use Rattle.code.specs.Filling.{Encoded}
use Rattle.grid.proofs.SizedWork.{column_within, column_step}
use Rattle.grid.proofs.columns.encode_columns.Goals as goal

pub encode-requires-clause-within : goal.encode-requires-clause-within
encode-requires-clause-within g c =
    column_within c.in_ok-grid.ensures c.column.ensures c.loop-j-test.true c.loop-j.auto.bytes

pub loop-j-preserved : goal.loop-j-preserved
loop-j-preserved g c =
    column_step c.in_ok-grid.ensures c.column.ensures (Encoded g.F.NumberSystem.system) c.loop-j-test.true c.loop-j.invariant c.encode.auto.bytes c.encode.ensures
