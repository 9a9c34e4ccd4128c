use Rattle.std.proofs.Common.{◌≡◌, ◌-◌, ◌*◌, ◌/◌, ◌<◌, ◌≤◌, Err, sym, refl, ap, ◌∙◌, ap₂, mul-le-mul_right, arith}
use Rattle.std.proofs.lemmas.Result.{err_from_is_err_and}
use Rattle.field.proofs.Sizes.{order_small}
use Rattle.grid.specs.Grids.{rows_of, row_bytes, row_symbols}
use Rattle.grid.proofs.Fitting.{long_rows, other_length, right_length, over, under, product_small}
use Rattle.grid.proofs.shape.Shape.measure.Given.{Over}
use Rattle.grid.proofs.shape.Shape.measure.Goals as goal
use Rattle.grid.proofs.shape.Shape.measure.Goals.{In_ok-width}

few : (g : Over) (c : In_ok-width g) → rows_of c.args.self.now < g.F.NumberSystem.system.order
few g c =
    let e = c.in_ok-rows.ensures.ok in
    omega (arith, e.0, e.1, c.from-most.ensures, (c.Q.ensures ∙ g.met.F.NumberSystem.order_is), g.F.NumberSystem.system.some)

fits : (g : Over) (c : In_ok-width g) → row_bytes c.args.self.now ≤ (c.from-most.result - 1) / c.PER_BYTE-m.result
fits g c = let e = c.in_ok-width.ensures.ok in omega (arith, e.0, e.1)

short : (g : Over) (c : In_ok-width g) → row_symbols g.F.NumberSystem.system c.args.self.now < g.F.NumberSystem.system.order
short g c =
    under g.F.NumberSystem.system (row_bytes c.args.self.now) c.from-most.result c.PER_BYTE-m.result (c.from-most.ensures ∙ (c.Q.ensures ∙ g.met.F.NumberSystem.order_is))
    (c.PER_BYTE-m.ensures ∙ g.met.F.NumberSystem.per_is) (fits g c)

pub returns-in_err-width : goal.returns-in_err-width
returns-in_err-width g c =
    let s = g.F.NumberSystem.system in
    let p = err_from_is_err_and c.from_residual-in_err-width.result c.from_residual-in_err-width.ensures.1 in
    rw (p.1, p.2)
    (long_rows s c.args.self.now c.args.bytes (over s (row_bytes c.args.self.now) c.from-most.result c.PER_BYTE-m.result (c.from-most.ensures ∙ (c.Q.ensures ∙ g.met.F.NumberSystem.order_is)) (c.PER_BYTE-m.ensures ∙ g.met.F.NumberSystem.per_is) c.in_err-width.ensures.err.1)
    ∙ ap Err (sym c.in_err-width.ensures.err.0))

pub returns-then-rows-width : goal.returns-then-rows-width
returns-then-rows-width g c =
    let here = (goal.at.returns-then-rows-width g c).In_ok-width in
    other_length g.F.NumberSystem.system c.args.self.now c.args.bytes (few g here) (short g here)
    (λ e. c.if-rows-width.true (ap₂ (λ x y. x * y) c.in_ok-rows.ensures.ok.0 c.in_ok-width.ensures.ok.0 ∙ e))

pub overflow_mul-result-2 : goal.overflow_mul-result-2
overflow_mul-result-2 g c =
    let s = g.F.NumberSystem.system in
    omega (
      arith,
      product_small s (row_bytes c.args.self.now) c.from-most.result c.PER_BYTE-m.result (c.from-most.ensures ∙ (c.Q.ensures ∙ g.met.F.NumberSystem.order_is)) (c.PER_BYTE-m.ensures ∙ g.met.F.NumberSystem.per_is) c.args.self.now.data_bytes (omega arith)
          (fits g (goal.at.overflow_mul-result-2 g c).In_ok-width),
    )

pub invariant_of-result : goal.invariant_of-result
invariant_of-result g c =
    let s = g.F.NumberSystem.system in
    let here = (goal.at.invariant_of-result g c).In_ok-width in
    let e = c.in_ok-rows.ensures.ok in
    let w = c.in_ok-width.ensures.ok in
    let o = order_small s in
    record {
      few = omega (arith, few g here);
      short = omega (arith, ap₂ (λ x y. x * y) w.0 (c.PER_BYTE-m.ensures ∙ g.met.F.NumberSystem.per_is), short g here);
      row_part = omega (arith, e.0);
      column_part = mul-le-mul_right c.PER_BYTE-m.result (omega (arith, w.0));
    }

pub returns : goal.returns
returns g c =
    let s = g.F.NumberSystem.system in
    let here = (goal.at.returns g c).In_ok-width in
    let long : rows_of c.args.self.now * row_bytes c.args.self.now ≡ c.args.bytes =
    ap₂ (λ x y. x * y) (sym c.in_ok-rows.ensures.ok.0) (sym c.in_ok-width.ensures.ok.0) ∙ c.if-rows-width.false
    in
    record {
      fits = right_length s c.args.self.now c.args.bytes (few g here) (short g here) long;
      rows = c.in_ok-rows.ensures.ok.0;
      check_rows = refl;
      columns = ap₂ (λ x y. x * y) c.in_ok-width.ensures.ok.0 (c.PER_BYTE-m.ensures ∙ g.met.F.NumberSystem.per_is);
      data_columns = ap (λ n. c.args.self.now.data_bytes * n) (c.PER_BYTE-m.ensures ∙ g.met.F.NumberSystem.per_is);
      few = few g here;
      short = short g here;
      long = sym long;
    }
