use Rattle.sector.proofs.Rowwise.{Done}
use Rattle.sector.proofs.Rewriting.{target}
use Rattle.sector.proofs.rows.put_rows.Given as goal

abbrev pub invariant-loop-r : goal.invariant-loop-r
invariant-loop-r g l =
    Done (target l.terms l.bodies l.flags (g.S.BlockStore.store l.initial.store)) l.r (g.S.BlockStore.store l.initial.store) (g.S.BlockStore.store l.store)
