use Rattle.std.proofs.Common.{◌≡◌, false, rules, length, replicate, ap, ◌∙◌, arith}
use Rattle.grid.specs.declared.shape.Shape.{Shape}
use Rattle.code.specs.Codewords.{count}
use Rattle.store.specs.Store.{at}
use Rattle.block.specs.Layouts.{row_count, check_rows}
use Rattle.sector.specs.Fillings.{lost_count}
use Rattle.sector.proofs.Recovery.{front_long, few_rows, count_is, filled}
use Rattle.sector.proofs.fitted.Fitted.recover.Goals as goal

pub returns-then-count-shape : goal.returns-then-count-shape
returns-then-count-shape g c =
    let s = g.F.NumberSystem.system in
    let t = c.args.self.now.terms.now in
    let few = few_rows t.layout in
    let flags : length c.survey.new.lost ≡ row_count t.layout = c.survey.auto.lost ∙ front_long (replicate 149 false) c.rows-rows.result (omega arith) ∙ c.rows-rows.ensures in
    let many : count c.survey.new.lost ≡ lost_count s t (at (g.S.BlockStore.store c.args.self.now.store.now)) =
    count_is s t (at (g.S.BlockStore.store c.args.self.now.store.now)) c.survey.new.bodies c.survey.new.lost c.survey.new.broken
    (c.survey.auto.bodies ∙ c.requires.room) flags (c.survey.auto.broken ∙ c.requires.flags) c.args.self.now.fits.few c.args.self.now.fits.short c.survey.ensures
    in
    let counted : c.count_unknown-count.result ≡ lost_count s t (at (g.S.BlockStore.store c.args.self.now.store.now)) = c.count_unknown-count.ensures ∙ many in
    let checks : c.shape-shape.result.check_rows ≡ check_rows t.layout = ap (λ (sh : Shape). sh.check_rows) c.shape-shape.ensures in
    let over = c.if-count-shape.true in
    (omega arith, counted)

pub returns : goal.returns
returns g c =
    let s = g.F.NumberSystem.system in
    let t = c.args.self.now.terms.now in
    let P = at (g.S.BlockStore.store c.args.self.now.store.now) in
    let few = few_rows t.layout in
    let flags : length c.survey.new.lost ≡ row_count t.layout = c.survey.auto.lost ∙ front_long (replicate 149 false) c.rows-rows.result (omega arith) ∙ c.rows-rows.ensures in
    filled s t P c.survey.new.bodies c.survey.new.lost c.survey.new.broken (c.survey.auto.bodies ∙ c.requires.room) flags
    (c.survey.auto.broken ∙ c.requires.flags) c.args.self.now.fits.few c.args.self.now.fits.short c.survey.ensures c.shape-shape.result c.fill_rows.new.bytes
    c.count_unknown-count.result c.fill_rows.result c.map_err.result c.shape-shape.ensures c.count_unknown-count.ensures c.if-count-shape.false
    c.fill_rows.ensures (search (rules, c.map_err.ensures.cases))
