use Rattle.polynomial.specs.Polynomials.{times_x, times_power}
use Rattle.field.proofs.Tables.{entries_are}
use Rattle.relabelled.specs.Labels.{value_of}
use Rattle.relabelled.proofs.value_of.Goals as goal

pub returns : goal.returns
unfolding times_x times_power value_of
returns c = entries_are c.entry.ensures 16 value_of tt c.requires
