use Rattle.std.proofs.Common.{ap, ◌%◌, ◌∙◌, arith}
use Rattle.grid.specs.Packing.{part}
use Rattle.grid.proofs.Parts.{Replacing, replacing}
use Rattle.grid.proofs.packing.replace_part.Given.{Over}
use Rattle.grid.proofs.packing.replace_part.Goals as goal
use Rattle.grid.proofs.packing.replace_part.Goals.{After-from}

here : (g : Over) (c : After-from g) → Replacing g.F.NumberSystem.system c.from-b.result c.args.k c.from.result c.weight-w.result c.Q-q.result
here g c =
    replacing g.F.NumberSystem.system c.from-b.result c.args.k c.from.result c.weight-w.result c.Q-q.result (omega (arith, c.from-b.ensures, c.ranges.b.fits)) c.requires
    c.weight-w.ensures (c.Q-q.ensures ∙ g.met.F.NumberSystem.order_is)

pub overflow_mul-result : goal.overflow_mul-result
overflow_mul-result g c = omega (arith, (here g c).step_small)

pub nonzero_div-result : goal.nonzero_div-result
nonzero_div-result g c = (here g c).step_some

pub overflow_mul-result-2 : goal.overflow_mul-result-2
overflow_mul-result-2 g c = omega (arith, (here g c).step_small)

pub overflow_mul-result-4 : goal.overflow_mul-result-4
overflow_mul-result-4 g c = omega (arith, (here g c).total_small)

pub overflow_add-result : goal.overflow_add-result
overflow_add-result g c = omega (arith, (here g c).total_small)

pub nonzero_rem-result : goal.nonzero_rem-result
nonzero_rem-result g c = (here g c).unit_some

pub overflow_add-result-2 : goal.overflow_add-result-2
overflow_add-result-2 g c = omega (arith, (here g c).total_small)

pub overflow_cast-result : goal.overflow_cast-result
overflow_cast-result g c = omega (arith, (here g c).total_small)

pub returns-clause-this : goal.returns-clause-this
returns-clause-this g c = (here g c).this ∙ ap (λ n. n % g.F.NumberSystem.system.order) c.from.ensures

pub returns-clause-others : goal.returns-clause-others
returns-clause-others g c j lj ne = (here g c).others j lj ne ∙ ap (λ n. part g.F.NumberSystem.system n j) c.from-b.ensures
