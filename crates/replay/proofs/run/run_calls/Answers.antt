use Rattle.std.proofs.Common.{rules, List, map, take, arith, length-take}
use Rattle.std.proofs.lemmas.List.{drop-set-lt}
use Rattle.replay.specs.Answers.{Reply, answer_of}
use Rattle.replay.specs.Runs.{Ran}
use Rattle.replay.specs.declared.script.Call.{Call}
use Rattle.replay.proofs.Cuts.{cut_all}
use Rattle.replay.proofs.Calls.{ran_more}
use Rattle.replay.proofs.run.run_calls.Goals as goal

pub loop-i-preserved : goal.loop-i-preserved
loop-i-preserved g c =
    let start = c.args.sector.now in
    let inv = c.loop-i.invariant in
    let here = c.loop-i-test.true in
    let short = length-take c.min-n.result c.args.calls.now in
    record {
      ran =
          ran_more g.F.NumberSystem.system start.terms (g.S.BlockStore.store start.store) (g.S.BlockStore.store c.loop-i.sector.store) _
          c.args.memory.now c.loop-i.memory _ (take c.min-n.result c.args.calls.now) c.loop-i.replies c.loop-i.i _ c.apply.result
          c.loop-i.sector.terms inv.terms here (omega arith) inv.ran c.apply.ensures.applied;
      rest = search (rules, drop-set-lt);
      terms = cc;
    }

pub returns-clause-ran : goal.returns-clause-ran
returns-clause-ran g c =
    let st = g.S.BlockStore.store in
    let start = c.args.sector.now in
    cut_all c.args.calls.now c.args.replies.now
    (λ (cs : List Call) (rs : List Reply).
    Ran g.F.NumberSystem.system start.terms (st start.store) c.args.memory.now cs (map answer_of rs) (st c.loop-i.sector.store) c.loop-i.memory)
    c.loop-i.replies c.min-n.result c.loop-i.i c.min-n.ensures c.loop-i-test.false c.loop-i.auto.i-end c.loop-i.invariant.ran
