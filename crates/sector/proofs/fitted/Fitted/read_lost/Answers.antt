use Rattle.std.proofs.Common.{◌≡◌, ℕ, ◌*◌, ◌<◌, length, replicate, ◌∙◌, arith}
use Rattle.block.specs.Layouts.{row_count, body_bytes}
use Rattle.sector.proofs.Recovery.{front_long}
use Rattle.sector.proofs.Reading.{read_filled, data_part}
use Rattle.sector.proofs.fitted.Fitted.read_lost.Goals as goal

pub returns : goal.returns
returns g c =
    let t = c.args.self.now.terms.now in
    let few : c.args.row < row_count t.layout = omega arith in
    let long : length c.recover.new.bodies ≡ row_count t.layout * body_bytes t.layout =
    c.recover.auto.bodies ∙ front_long (replicate {A = ℕ} 12665 0) c.all_bytes-all.result c.all_bytes-all.ensures.few ∙ c.all_bytes-all.ensures.many
    in
    read_filled g.F.NumberSystem.system t (g.S.BlockStore.store c.args.self.now.store.now) c.args.row c.args.buffer.now c.requires.lost
    c.recover.new.bodies _ c.copy_from_slice.new.self long few c.in_ok-recover.ensures
    (c.copy_from_slice.ensures.after
    ∙ data_part t.layout c.recover.new.bodies c.args.row c.body_bytes.result (length c.args.buffer.now) c.body_bytes.ensures c.requires.row.1)
    (λ i. (c.type_inv.buffer i).fits)
