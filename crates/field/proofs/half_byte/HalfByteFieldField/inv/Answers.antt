use Rattle.std.proofs.Common.{◌≡◌, ◌%◌, ap, ◌∙◌, arith}
use Rattle.polynomial.specs.Polynomials.{times_x, times_power, half_byte_product}
use Rattle.polynomial.proofs.Logarithms.{log}
use Rattle.polynomial.proofs.Laws.{partner, partner_law}
use Rattle.polynomial.proofs.Moduli.{half_byte_primitive}
use Rattle.field.proofs.Tables.{entries_are}
use Rattle.field.proofs.half_byte.HalfByteFieldField.inv.Goals as goal

pub returns : goal.returns
unfolding times_x times_power log partner
returns c =
    let a = c.args.a % 16 in
    let found : c.entry.result ≡ partner half_byte_primitive a =
    entries_are c.entry.ensures 16 (partner half_byte_primitive) tt (omega arith)
    in
    record {
      partner = found;
      polynomial = λ p. ap (half_byte_product a) found ∙ partner_law half_byte_primitive a (omega arith) (λ z. omega arith);
    }
