use Rattle.std.proofs.Common.{◌≡◌, map, take, drop}
use Rattle.replay.specs.Answers.{answer_of}
use Rattle.replay.proofs.Writes.{WritingOn}
use Rattle.replay.proofs.run.write_all.Given as goal

abbrev pub invariant-loop-i : goal.invariant-loop-i
invariant-loop-i g l = record {
  wrote :
      WritingOn g.F.NumberSystem.system l.initial.sector.terms (take l.i l.write-items) (g.S.BlockStore.store l.initial.sector.store)
      (g.S.BlockStore.store l.sector.store) l.initial.sector.marks l.sector.marks (map answer_of (take l.i l.replies));
  rest : drop l.n l.replies ≡ drop l.n l.initial.replies;
  terms : l.sector.terms ≡ l.initial.sector.terms;
}
