use Rattle.std.proofs.Common.{rules, ◌≡◌, List, map, take, arith, length-take}
use Rattle.std.proofs.lemmas.List.{drop-set-lt}
use Rattle.std.proofs.lemmas.Grind.{common_steps}
use Rattle.sector.specs.Answers.{answer_done}
use Rattle.replay.specs.Answers.{Reply, answer_of}
use Rattle.replay.specs.Runs.{WritingAll}
use Rattle.replay.specs.declared.script.RowWrite.{RowWrite}
use Rattle.replay.proofs.Cuts.{cut_all}
use Rattle.replay.proofs.Writes.{writes_none, writes_more, writes_all}
use Rattle.replay.proofs.run.write_all.Goals as goal

pub loop-i-init : goal.loop-i-init
loop-i-init g c =
    let sector = c.args.sector.now in
    record {
      wrote = writes_none g.F.NumberSystem.system sector.terms (g.S.BlockStore.store sector.store) sector.marks c.requires;
      rest = search rules;
      terms = search rules;
    }

pub loop-i-preserved : goal.loop-i-preserved
loop-i-preserved g c =
    let start = c.args.sector.now in
    let inv = c.loop-i.invariant in
    let here = c.loop-i-test.true in
    let short = length-take c.min-n.result c.args.writes.now in
    let same : answer_of c.map.result ≡ answer_done c.write.result = grind (arith, common_steps) in
    record {
      wrote =
          writes_more g.F.NumberSystem.system start.terms (g.S.BlockStore.store start.store) (g.S.BlockStore.store c.loop-i.sector.store) _
          start.marks c.loop-i.sector.marks _ (take c.min-n.result c.args.writes.now) c.loop-i.replies c.loop-i.i _ c.map.result
          (answer_done c.write.result) c.loop-i.sector.terms inv.terms here (omega arith) inv.wrote c.write.ensures.sound
          c.write.ensures.after same;
      rest = search (rules, drop-set-lt);
      terms = cc;
    }

pub returns-clause-marks : goal.returns-clause-marks
returns-clause-marks g c =
    let s = g.F.NumberSystem.system in
    let st = g.S.BlockStore.store in
    let start = c.args.sector.now in
    cut_all c.args.writes.now c.args.replies.now
    (λ (ws : List RowWrite) (rs : List Reply).
    WritingAll s start.terms ws (st start.store) (st c.loop-i.sector.store) start.marks c.loop-i.sector.marks (map answer_of rs))
    c.loop-i.replies c.min-n.result c.loop-i.i c.min-n.ensures c.loop-i-test.false c.loop-i.auto.i-end
    (writes_all s start.terms (st start.store) (st c.loop-i.sector.store) start.marks c.loop-i.sector.marks (take c.loop-i.i _) _ c.loop-i.invariant.wrote)
