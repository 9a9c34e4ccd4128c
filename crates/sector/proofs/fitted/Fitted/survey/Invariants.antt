use Rattle.store.specs.Store.{at}
use Rattle.sector.specs.Recovery.{Surveyed}
use Rattle.sector.proofs.fitted.Fitted.survey.Given as goal

abbrev pub invariant-loop-r : goal.invariant-loop-r
invariant-loop-r g l =
    Surveyed g.F.NumberSystem.system l.self.terms.now (at (g.S.BlockStore.store l.self.store.now)) l.r l.bodies l.lost l.broken
