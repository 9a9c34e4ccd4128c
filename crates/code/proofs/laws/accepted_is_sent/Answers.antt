use Rattle.code.proofs.Reach.{accepted_sent}
use Rattle.code.proofs.laws.accepted_is_sent.Goals as goal

pub returns : goal.returns
returns g c = accepted_sent g.F.NumberSystem.system
