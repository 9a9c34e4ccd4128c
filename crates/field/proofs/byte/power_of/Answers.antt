use Rattle.std.proofs.Common.{arith}
use Rattle.polynomial.specs.Polynomials.{times_x, times_power, byte_polynomial}
use Rattle.field.proofs.Tables.{entries_are}
use Rattle.field.proofs.byte.power_of.Goals as goal

pub returns : goal.returns
unfolding times_x times_power
returns c = entries_are c.entry.ensures 256 (λ i. times_power 8 byte_polynomial i 1) tt (omega arith)
