use Rattle.std.proofs.Common.{◌<◌, ap, ◌∙◌, arith}
use Rattle.block.specs.Layouts.{data_rows}
use Rattle.sector.proofs.Fits.{fits_from}
use Rattle.sector.proofs.Opened.{writing_done}
use Rattle.sector.proofs.open.OpenSector.write.Goals as goal

pub returns-clause-after : goal.returns-clause-after
returns-clause-after g c =
    let s = g.F.NumberSystem.system in
    let St = g.S.BlockStore.store in
    let t = c.self.inside.terms in
    let shape = c.shape-shape.ensures in
    let rows = ap (λ sh. sh.data_rows) shape in
    let lt : c.args.row < data_rows t.layout = omega arith in
    rw (← c.self.view_is)
    (writing_done s t c.args.row c.args.bytes.now (St c.self.inside.store) (St c.write_row.new.store) c.self.inside.marks _
    (fits_from s t (St c.self.inside.store) c.in_ok-fit.ensures.reply) lt (c.if-bytes-shape.false ∙ ap (λ sh. sh.data_bytes) shape)
    (c.write_row.ensures c.self.inside.marks))
