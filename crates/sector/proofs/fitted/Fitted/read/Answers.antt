use Rattle.std.proofs.Common.{◌≡◌, ℕ, ◌-◌, length, take, replicate, ap, ◌∙◌, arith}
use Rattle.block.specs.Layouts.{data_bytes}
use Rattle.sector.proofs.Recovery.{front_long}
use Rattle.sector.proofs.Reading.{read_direct, few_bytes}
use Rattle.sector.proofs.fitted.Fitted.read.Goals as goal

pub returns : goal.returns
returns g c =
    let t = c.args.self.now.terms.now in
    let few = few_bytes t.layout in
    let k : length c.args.buffer.now - 0 ≡ data_bytes t.layout = omega arith in
    read_direct g.F.NumberSystem.system t (g.S.BlockStore.store c.args.self.now.store.now) c.args.row c.args.buffer.now c.examine.new.body
    c.copy_from_slice.new.self c.examine.result c.is_lost.result c.examine.ensures c.is_lost.ensures c.if-is_lost.false
    (c.examine.auto.body ∙ front_long (replicate {A = ℕ} 85 0) c.body_bytes-n.result (omega (arith, c.body_bytes-n.ensures)) ∙ c.body_bytes-n.ensures)
    (c.copy_from_slice.ensures.after ∙ ap (λ n. take n c.examine.new.body) k) (λ i. (c.type_inv.buffer i).fits)
