use Rattle.code.proofs.Elimination.{one_solution}
use Rattle.code.proofs.laws.equations_have_one_solution.Goals as goal

pub returns : goal.returns
returns g c = one_solution g.F.NumberSystem.system.on
