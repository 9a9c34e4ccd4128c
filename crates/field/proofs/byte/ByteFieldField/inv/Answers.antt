use Rattle.std.proofs.Common.{◌≡◌, ◌+◌, ◌-◌, ◌%◌, sym, ap, ◌∙◌, arith}
use Rattle.polynomial.specs.Polynomials.{byte_product, byte_polynomial}
use Rattle.polynomial.proofs.Linearity.{x_power}
use Rattle.polynomial.proofs.Logarithms.{power_small, product_powers}
use Rattle.polynomial.proofs.Laws.{partner, partner_nil, partner_only}
use Rattle.polynomial.proofs.Moduli.{byte_primitive}
use Rattle.field.proofs.byte.ByteFieldField.inv.Goals as goal

pub returns-then-a-eq0 : goal.returns-then-a-eq0
returns-then-a-eq0 c =
    let none : c.args.a % 256 ≡ 0 = omega arith in
    record {
      partner = sym (ap (partner byte_primitive) none ∙ partner_nil byte_primitive);
      polynomial = λ p. absurd (let z : ⊥ = omega arith in z);
    }

pub returns-else-a-eq0 : goal.returns-else-a-eq0
returns-else-a-eq0 c =
    let a = c.args.a in
    let i = c.logarithm_of.result in
    let r = x_power 8 byte_polynomial (255 - i) in
    let same : a ≡ a % 256 = omega arith in
    let round : i + (255 - i) ≡ 255 = omega arith in
    let one : byte_product a r ≡ 1 =
    ap (λ x. byte_product x r) (sym (c.logarithm_of.ensures.power (omega arith)))
    ∙ product_powers byte_primitive i (255 - i) ∙ ap (x_power 8 byte_polynomial) round ∙ byte_primitive.round
    in
    record {
      partner =
          c.power_of.ensures ∙ partner_only byte_primitive a r (omega arith) (power_small byte_primitive (255 - i)) one
          ∙ ap (partner byte_primitive) same;
      polynomial = λ p. ap (byte_product a) c.power_of.ensures ∙ one;
    }
