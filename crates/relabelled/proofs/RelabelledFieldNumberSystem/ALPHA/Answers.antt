use Rattle.std.proofs.Common.{refl}
use Rattle.polynomial.specs.Polynomials.{times_x, times_power}
use Rattle.polynomial.proofs.Logarithms.{log}
use Rattle.relabelled.specs.Labels.{label_of}
use Rattle.relabelled.proofs.RelabelledFieldNumberSystem.ALPHA.Goals as goal

pub returns : goal.returns
unfolding times_x times_power log label_of
returns c = refl
