use Rattle.std.proofs.Common.{◌≡◌, map, take, drop}
use Rattle.replay.specs.Answers.{answer_of}
use Rattle.replay.specs.Runs.{Ran}
use Rattle.replay.proofs.run.run_calls.Given as goal

abbrev pub invariant-loop-i : goal.invariant-loop-i
invariant-loop-i g l = record {
  ran :
      Ran g.F.NumberSystem.system l.initial.sector.terms (g.S.BlockStore.store l.initial.sector.store) l.initial.memory
      (take l.i l.call-items) (map answer_of (take l.i l.replies)) (g.S.BlockStore.store l.sector.store) l.memory;
  rest : drop l.n l.replies ≡ drop l.n l.initial.replies;
  terms : l.sector.terms ≡ l.initial.sector.terms;
}
