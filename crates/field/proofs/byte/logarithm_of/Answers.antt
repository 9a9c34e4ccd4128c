use Rattle.std.proofs.Common.{arith}
use Rattle.polynomial.specs.Polynomials.{times_x, times_power, byte_polynomial}
use Rattle.field.proofs.Tables.{entries_below, entries_undo}
use Rattle.field.proofs.byte.logarithm_of.Goals as goal

pub returns : goal.returns
unfolding times_x times_power
returns c =
    record {
      small = entries_below c.entry.ensures 256 255 tt (omega arith);
      power = λ p. entries_undo c.entry.ensures 255 (λ i. times_power 8 byte_polynomial i 1) tt p (omega arith);
    }
