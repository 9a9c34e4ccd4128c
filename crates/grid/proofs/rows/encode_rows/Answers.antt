use Rattle.grid.proofs.SizedWork.{row_within, row_step}
use Rattle.grid.proofs.rows.encode_rows.Goals as goal

pub encode-requires-clause-within : goal.encode-requires-clause-within
encode-requires-clause-within g c =
    row_within c.in_ok-grid.ensures c.row.ensures c.loop-r-test.true c.loop-r.auto.bytes

pub loop-r-preserved : goal.loop-r-preserved
loop-r-preserved g c =
    row_step c.in_ok-grid.ensures c.row.ensures c.loop-r.invariant c.encode.auto.bytes c.encode.ensures
