use Rattle.code.proofs.Reach.{acceptance_one}
use Rattle.code.proofs.laws.acceptance_is_one.Goals as goal

pub returns : goal.returns
returns g c = acceptance_one g.F.NumberSystem.system
