use Rattle.code.proofs.Distance.{codewords_apart}
use Rattle.code.proofs.laws.codewords_are_apart.Goals as goal

pub returns : goal.returns
returns g c = codewords_apart g.F.NumberSystem.system
