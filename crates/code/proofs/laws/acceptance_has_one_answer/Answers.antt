use Rattle.code.proofs.Trying.{acceptance_has_one_answer}
use Rattle.code.proofs.laws.acceptance_has_one_answer.Goals as goal

pub returns : goal.returns
returns g c = acceptance_has_one_answer g.F.NumberSystem.system
