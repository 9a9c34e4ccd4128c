use Rattle.std.proofs.Common.{◌≡◌, length, ◌∙◌, arith}
use Rattle.std.proofs.lemmas.Grind.{common_steps}
use Rattle.grid.proofs.SizedWork.{syndromes_within, syndromes_step}
use Rattle.grid.proofs.columns.column_syndromes.Goals as goal

pub scatter-requires-clause-within : goal.scatter-requires-clause-within
scatter-requires-clause-within g c =
    syndromes_within c.in_ok-grid.ensures c.syndromes.ensures c.loop-j-test.true (c.loop-j.auto.syndromes ∙ c.if-syndromes-shape.false)

pub loop-j-preserved : goal.loop-j-preserved
loop-j-preserved g c =
    let long : length c.write_syndromes.new.out ≡ c.syndromes.result.len = grind (arith, common_steps) in
    syndromes_step c.in_ok-grid.ensures _ _ _ _ _ c.column.ensures c.syndromes.ensures c.loop-j-test.true c.gather.ensures long c.write_syndromes.ensures
    c.scatter.ensures c.loop-j.invariant
