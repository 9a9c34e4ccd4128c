use Rattle.std.proofs.Common.{◌≡◌, ℕ, ◌*◌, ◌<◌, sym, ap, ◌∙◌, subst, arith}
use lib.Bits.{bit_xor, xor_zero_r}
use Rattle.polynomial.specs.Polynomials.{coefficient, times_x, half_byte_polynomial}
use Rattle.polynomial.proofs.Logarithms.{times_x_small}
use Rattle.polynomial.proofs.Moduli.{half_byte_primitive}
use Rattle.field.proofs.half_byte.times_x.Goals as goal

pub returns-then-a-lt8 : goal.returns-then-a-lt8
unfolding times_x
returns-then-a-lt8 c =
    let double = c.args.a * 2 in
    let none : coefficient 4 (c.args.a * 2) ≡ 0 = omega arith in
    record {
      shifted = sym (ap (λ d. bit_xor double (d * half_byte_polynomial)) none ∙ xor_zero_r double);
      small = omega arith;
    }

pub returns-else-a-lt8 : goal.returns-else-a-lt8
unfolding times_x
returns-else-a-lt8 c =
    let double = c.args.a * 2 in
    let one : coefficient 4 (c.args.a * 2) ≡ 1 = omega arith in
    let is = ap (λ d. bit_xor double (d * half_byte_polynomial)) one in
    record {
      shifted = sym is;
      small = subst (λ (x : ℕ). x < 16) is (times_x_small half_byte_primitive c.args.a c.requires);
    }
