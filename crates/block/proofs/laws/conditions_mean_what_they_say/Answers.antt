use Rattle.block.proofs.Judging.{conditions_say}
use Rattle.block.proofs.laws.conditions_mean_what_they_say.Goals as goal

pub returns : goal.returns
returns g c = conditions_say g.F.NumberSystem.system
