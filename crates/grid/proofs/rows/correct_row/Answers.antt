use Rattle.std.proofs.Common.{◌*◌, ◌≤◌, length, refl, ◌∙◌, mul-le-mul_right, arith}
use Rattle.grid.proofs.Fitting.{over, product_small}
use Rattle.grid.proofs.LineWork.{too_long_row}
use Rattle.grid.proofs.rows.correct_row.Goals as goal

pub returns-then-row-from : goal.returns-then-row-from
returns-then-row-from g c =
    let s = g.F.NumberSystem.system in
    too_long_row s c.args.check_bytes c.args.row.now c.args.row.now refl c.if-check_bytes-row.false
    (over s (length c.args.row.now) c.from.result c.PER_BYTE-m.result (c.from.ensures ∙ (c.Q.ensures ∙ g.met.F.NumberSystem.order_is)) (c.PER_BYTE-m.ensures ∙ g.met.F.NumberSystem.per_is) c.if-row-from.true)

pub invariant_of-line : goal.invariant_of-line
invariant_of-line g c =
    let n = length c.args.row.now in
    let m = c.PER_BYTE-m.result in
    let small : n * m ≤ 255 =
    product_small g.F.NumberSystem.system n c.from.result m (c.from.ensures ∙ (c.Q.ensures ∙ g.met.F.NumberSystem.order_is)) (c.PER_BYTE-m.ensures ∙ g.met.F.NumberSystem.per_is) n (omega arith) c.if-row-from.false
    in
    record { near = omega arith; apart = omega arith; close = omega arith; short = omega arith; room = mul-le-mul_right m c.if-check_bytes-row.false }
