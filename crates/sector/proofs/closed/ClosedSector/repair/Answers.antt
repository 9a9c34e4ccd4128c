use Rattle.std.proofs.Common.{◌≡◌, ℕ, ◌*◌, length, replicate, Ok, Err, ap, ◌∙◌}
use Rattle.std.proofs.lemmas.Result.{err_from_is_err_and}
use Rattle.grid.specs.Grids.{RowsEncoded}
use Rattle.store.specs.Store.{at}
use Rattle.block.specs.Layouts.{shape_of, row_count, body_bytes}
use Rattle.sector.specs.Recovery.{Recovered}
use Rattle.sector.proofs.Fits.{fits_from}
use Rattle.sector.proofs.Recovery.{front_long}
use Rattle.sector.proofs.Rewriting.{repairing, worked_out, repair_refused, repair_done, rows_encoded}
use Rattle.sector.proofs.closed.ClosedSector.repair.Goals as goal

pub returns-in_err-recover-clause-after : goal.returns-in_err-recover-clause-after
returns-in_err-recover-clause-after g c =
    let s = g.F.NumberSystem.system in
    let t = c.self.inside.terms in
    let old = g.S.BlockStore.store c.self.inside.store in
    let same = c.in_ok-fitted.ensures.same in
    let p = err_from_is_err_and c.from_residual-in_err-recover.result c.from_residual-in_err-recover.ensures.1 in
    rw (← c.self.view_is, p.1, p.2)
    (repairing s t old old _ (fits_from s t old c.in_ok-fitted.ensures.reply)
    (repair_refused s t old c.recover.new.bodies c.recover.new.broken _
    (worked_out s t old _ _ c.recover.new.bodies c.recover.new.broken (Err _) same.0 (ap g.S.BlockStore.store same.1) c.in_err-recover.ensures)))

pub returns-clause-after : goal.returns-clause-after
returns-clause-after g c =
    let s = g.F.NumberSystem.system in
    let t = c.self.inside.terms in
    let old = g.S.BlockStore.store c.self.inside.store in
    let same = c.in_ok-fitted.ensures.same in
    let fits = fits_from s t old c.in_ok-fitted.ensures.reply in
    let recovered : Recovered s t (at old) c.recover.new.bodies c.recover.new.broken (Ok tt) =
    worked_out s t old _ _ c.recover.new.bodies c.recover.new.broken (Ok tt) same.0 (ap g.S.BlockStore.store same.1) c.in_ok-recover.ensures
    in
    let long : length c.recover.new.bodies ≡ row_count t.layout * body_bytes t.layout =
    c.recover.auto.bodies ∙ front_long (replicate {A = ℕ} 12665 0) c.all_bytes.result c.all_bytes.ensures.few ∙ c.all_bytes.ensures.many
    in
    let encoded : RowsEncoded s (shape_of t.layout) c.recover.new.bodies c.encode_rows.new.bytes =
    rows_encoded s t old c.shape.result c.recover.new.bodies c.encode_rows.new.bytes c.encode_rows.result c.shape.ensures long fits.few
    fits.short c.encode_rows.ensures.reply c.encode_rows.ensures.after
    in
    rw (← c.self.view_is)
    (repairing s t old (g.S.BlockStore.store c.put_rows.new.store) _ fits
    (repair_done s t old c.recover.new.bodies c.encode_rows.new.bytes c.recover.new.broken long encoded c.are_bytes.ensures
    (g.S.BlockStore.store c.put_rows.new.store) c.count_unknown.result recovered c.put_rows.ensures c.count_unknown.ensures))
