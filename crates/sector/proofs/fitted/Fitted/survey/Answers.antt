use Rattle.std.proofs.Common.{◌+◌, ◌-◌, ◌*◌, ◌<◌, ap, ◌∙◌, arith}
use Rattle.block.specs.Layouts.{row_count}
use Rattle.store.specs.Store.{at}
use Rattle.sector.proofs.Flat.{length_part}
use Rattle.sector.proofs.Survey.{surveyed_more}
use Rattle.sector.proofs.fitted.Fitted.survey.Goals as goal

pub loop-r-preserved : goal.loop-r-preserved
loop-r-preserved g c =
    let s = g.F.NumberSystem.system in
    let t = c.args.self.now.terms.now in
    let n = c.body_bytes-n.result in
    let r = c.loop-r.r in
    let few : r < row_count t.layout = omega arith in
    surveyed_more s t (at (g.S.BlockStore.store c.args.self.now.store.now)) r (r * n) (r * n + n - r * n) c.loop-r.bodies c.examine-condition.new.body
    c.loop-r.lost c.loop-r.broken c.examine-condition.result c.is_lost.result c.is_clean.result
    (c.loop-r.auto.bodies ∙ c.requires.room) few (ap (λ k. r * k) c.body_bytes-n.ensures) (omega (arith, c.body_bytes-n.ensures))
    (c.examine-condition.auto.body ∙ length_part t.layout c.loop-r.bodies r n (c.loop-r.auto.bodies ∙ c.requires.room) few c.body_bytes-n.ensures)
    (omega arith) (omega arith)
    c.examine-condition.ensures c.is_lost.ensures c.is_clean.ensures c.loop-r.invariant
