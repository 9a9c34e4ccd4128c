use Rattle.std.proofs.Common.{◌≡◌, ◌/◌, ◌%◌, ◌^◌, ◌<◌}
use Rattle.polynomial.specs.Polynomials.{times_power, times_part, half_byte_polynomial}
use Rattle.field.proofs.half_byte.HalfByteFieldNumberSystem.mul.Given as goal

abbrev pub invariant-loop-i : goal.invariant-loop-i
invariant-loop-i l =
    (l.shifted < 16) × (l.shifted ≡ times_power 4 half_byte_polynomial l._i (l.a % 16)) × (l.left ≡ l.b % 16 / 2 ^ l._i)
    × (l.r ≡ times_part 4 half_byte_polynomial l._i (l.a % 16) (l.b % 16))
