-- The two polynomials that the fields are taken modulo are primitive.
use Rattle.std.proofs.Common.{refl, lit<}
use Rattle.polynomial.specs.Polynomials.{times_x, times_power, byte_polynomial, half_byte_polynomial}
use Rattle.polynomial.proofs.Logarithms.{Primitive}

pub byte_primitive : Primitive 8 byte_polynomial 255
unfolding times_x times_power
byte_primitive =
    record { size = refl; some = lit< tt; degree = lit< tt; round = refl; low = tt; pos = tt; small = tt; apart = tt; within = tt; whole = tt }

pub half_byte_primitive : Primitive 4 half_byte_polynomial 15
unfolding times_x times_power
half_byte_primitive =
    record { size = refl; some = lit< tt; degree = lit< tt; round = refl; low = tt; pos = tt; small = tt; apart = tt; within = tt; whole = tt }
