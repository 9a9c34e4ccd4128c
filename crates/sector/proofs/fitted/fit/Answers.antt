-- The last test is of a body's symbols, by a division.
use Rattle.std.proofs.Common.{◌≡◌, ◌≤◌, ◌∙◌, arith}
use Rattle.block.specs.Layouts.{row_count, block_width}
use Rattle.sector.proofs.Fits.{long_bodies}
use Rattle.sector.proofs.fitted.fit.Goals as goal

pub returns-then-body_bytes-q-clause-reply : goal.returns-then-body_bytes-q-clause-reply
returns-then-body_bytes-q-clause-reply g c =
    let s = g.F.NumberSystem.system in
    let t = c.args.terms.now in
    let st = g.S.BlockStore.store c.args.store.now in
    let pair : t.pair ≤ 11 = omega arith in
    let room : row_count t.layout ≤ st.places = omega arith in
    let wide : st.width ≡ block_width t.layout = omega arith in
    long_bodies s t st c.body_bytes.result c.from-q.result c.PER_BYTE-m.result c.body_bytes.ensures (c.from-q.ensures ∙ (c.Q.ensures ∙ g.met.F.NumberSystem.order_is))
    (c.PER_BYTE-m.ensures ∙ g.met.F.NumberSystem.per_is) pair room wide c.if-body_bytes-q.true
