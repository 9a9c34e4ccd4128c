use Rattle.std.proofs.Common.{◌≡◌}
use Rattle.field.specs.Systems.{power_of}
use Rattle.field.proofs.power.Given as goal

abbrev pub invariant-loop-k : goal.invariant-loop-k
invariant-loop-k g l = l.r ≡ power_of g.F.NumberSystem.system l.x l._k
