use Rattle.std.proofs.Common.{arith}
use Rattle.field.proofs.Sizes.{order_small}
use Rattle.code.proofs.sizes.test_sizes.Goals as goal

pub returns-clause-room : goal.returns-clause-room
returns-clause-room g c = omega (arith, g.met.F.NumberSystem.order_is, order_small g.F.NumberSystem.system)
