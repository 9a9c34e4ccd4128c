use Rattle.std.proofs.Common.{None}
use Rattle.sector.proofs.Rowwise.{Done}
use Rattle.sector.proofs.rows.clear_rows.Given as goal

abbrev pub invariant-loop-r : goal.invariant-loop-r
invariant-loop-r g l = Done (λ _. None) l.r (g.S.BlockStore.store l.initial.store) (g.S.BlockStore.store l.store)
