use Rattle.grid.proofs.Parts.{symbols_tell_bytes}
use Rattle.grid.proofs.packing.symbols_tell_bytes.Goals as goal

pub returns : goal.returns
returns g c = symbols_tell_bytes g.F.NumberSystem.system
