use Rattle.std.proofs.Common.{◌≡◌, ℕ, ◌-◌, ◌*◌, true, length, take, drop, replicate, ◌∙◌, arith}
use Rattle.store.specs.Store.{at}
use Rattle.block.specs.Layouts.{row_count, body_bytes}
use Rattle.sector.specs.Opening.{open_data}
use Rattle.sector.proofs.Fits.{fits_when}
use Rattle.sector.proofs.Recovery.{front_long, few_rows}
use Rattle.sector.proofs.Opened.{all_set, closing_done}
use Rattle.sector.proofs.open.close_rows.Goals as goal

pub returns : goal.returns
returns g c =
    let s = g.F.NumberSystem.system in
    let St = g.S.BlockStore.store in
    let t = c.args.terms.now in
    let old = St c.args.store.now in
    let long : length c.gather_rows.new.flat ≡ row_count t.layout * body_bytes t.layout = c.gather_rows.auto.flat ∙ front_long (replicate {A = ℕ} 12665 0) c.all_bytes-n.result c.all_bytes-n.ensures.few ∙ c.all_bytes-n.ensures.many in
    closing_done s t (open_data t.layout c.args.marks.now (at old)) old (St c.put_rows.new.store) c.gather_rows.new.flat c.encode_columns.new.bytes
    c.encode_rows.new.bytes (fits_when s t old c.requires.fits) long c.are_bytes.ensures c.are_bytes-2.ensures c.gather_rows.ensures
    (take (c.rows.result - 0) (drop 0 (replicate 149 true)))
    (λ r h. all_set 149 c.rows.result r (omega (arith, c.rows.ensures)) (omega (arith, c.rows.ensures, few_rows t.layout))) c.put_rows.ensures c.shape-shape.result c.shape-shape.ensures c.encode_columns.result c.encode_rows.result c.encode_columns.ensures.reply
    c.encode_columns.ensures.after c.encode_rows.ensures.reply c.encode_rows.ensures.after
