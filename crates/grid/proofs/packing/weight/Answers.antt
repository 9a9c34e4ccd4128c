use Rattle.std.proofs.Common.{◌∙◌, ◌-◌, arith}
use Rattle.grid.proofs.Parts.{per_small, weight_small}
use Rattle.grid.proofs.packing.weight.Goals as goal

pub overflow_cast-PER_BYTE : goal.overflow_cast-PER_BYTE
overflow_cast-PER_BYTE g c = omega (arith, g.met.F.NumberSystem.per_is, per_small g.F.NumberSystem.system)

pub pow-requires : goal.pow-requires
pow-requires g c =
    let s = g.F.NumberSystem.system in
    rw ((c.Q.ensures ∙ g.met.F.NumberSystem.order_is), (c.PER_BYTE.ensures ∙ g.met.F.NumberSystem.per_is)) (omega (arith, weight_small s (s.per - 1 - c.args.k) (omega arith)))
