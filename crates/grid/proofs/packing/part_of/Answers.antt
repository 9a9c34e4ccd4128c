use Rattle.std.proofs.Common.{◌-◌}
use Rattle.grid.proofs.Parts.{weight_some}
use Rattle.grid.proofs.packing.part_of.Goals as goal

pub nonzero_div-result : goal.nonzero_div-result
nonzero_div-result g c = let s = g.F.NumberSystem.system in rw c.weight.ensures (weight_some s (s.per - 1 - c.args.k))
