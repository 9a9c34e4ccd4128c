use Rattle.block.proofs.Written.{written_is_right}
use Rattle.block.proofs.laws.written_identification_is_right.Goals as goal

pub returns : goal.returns
returns c = written_is_right
