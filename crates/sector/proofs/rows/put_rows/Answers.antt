use Rattle.std.proofs.Common.{◌+◌, ◌*◌, ◌<◌, length, sym, ap, ◌∙◌, subst, arith}
use Rattle.sector.proofs.Flat.{body_part}
use Rattle.sector.proofs.Rowwise.{Done}
use Rattle.sector.proofs.Rewriting.{target, flagged_more, unflagged_more}
use Rattle.sector.proofs.rows.put_rows.Goals as goal
use Rattle.sector.proofs.rows.put_rows.Goals.{then-flag, else-flag}

pub loop-r-preserved : goal.loop-r-preserved
loop-r-preserved g c =
    let St = g.S.BlockStore.store in
    let t = c.args.terms.now in
    let sized = c.requires.sized in
    let room = c.requires.fits.0 in
    let few : c.loop-r.r < length (St c.args.store.now).contents = omega arith in
    elim c.if-flag.branch [
      | then-flag w ↦
          flagged_more t c.args.bodies.now c.args.flags.now (St c.args.store.now) c.loop-r.r (St c.loop-r.store) (St c.if-flag.store) _
          c.loop-r.invariant few w.if-flag.true (body_part t.layout c.args.bodies.now c.loop-r.r _ _ (ap (λ k. c.loop-r.r * k) c.body_bytes-n.ensures) (omega (arith, c.body_bytes-n.ensures)))
          (ap St w.store-is ∙ w.put_row.ensures)
      | else-flag w ↦
          subst (Done (target t c.args.bodies.now c.args.flags.now (St c.args.store.now)) (c.loop-r.r + 1) (St c.args.store.now)) (ap St (sym w.store-is))
          (unflagged_more t c.args.bodies.now c.args.flags.now (St c.args.store.now) c.loop-r.r (St c.loop-r.store) c.loop-r.invariant w.if-flag.false)
    ]
