use Rattle.polynomial.specs.Polynomials.{times_x, times_power}
use Rattle.polynomial.proofs.Logarithms.{log}
use Rattle.field.proofs.Tables.{entries_are}
use Rattle.relabelled.specs.Labels.{label_of}
use Rattle.relabelled.proofs.label_of.Goals as goal

pub returns : goal.returns
unfolding times_x times_power log label_of
returns c = entries_are c.entry.ensures 16 label_of tt c.requires
