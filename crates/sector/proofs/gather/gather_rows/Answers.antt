use Rattle.std.proofs.Common.{◌<◌, false, cond, ap, ◌∙◌, arith, length-take-le, get_or-take}
use Rattle.store.specs.Store.{at}
use Rattle.block.specs.Layouts.{data_rows}
use Rattle.sector.specs.Opening.{filler, data_in, open_data}
use Rattle.sector.proofs.Gathering.{gathered_more}
use Rattle.sector.proofs.gather.gather_rows.Goals as goal

pub loop-r-preserved : goal.loop-r-preserved
loop-r-preserved g c =
    let l = c.args.layout in
    let st = g.S.BlockStore.store c.args.store.now in
    let er = ap (λ sh. sh.data_rows) c.shape-rows.ensures in
    let lt : c.loop-r.r < data_rows l = omega (arith, length-take-le c.shape-rows.result.data_rows c.args.marks.now (omega arith)) in
    let mark = get_or-take c.shape-rows.result.data_rows c.args.marks.now c.loop-r.r false (omega arith) in
    gathered_more l (open_data l c.args.marks.now (at st)) c.loop-r.flat c.load_row.new.out c.loop-r.r c.body_bytes-n.result c.shape-some.result.data_bytes
    (c.loop-r.auto.flat ∙ c.requires.1.1.1) lt c.body_bytes-n.ensures (ap (λ sh. sh.data_bytes) c.shape-some.ensures) c.load_row.auto.out (c.load_row.ensures ∙ ap (λ b. cond b (data_in l (at st c.loop-r.r)) (filler l)) mark)
    c.loop-r.invariant
