use Rattle.std.proofs.Common.{◌≡◌, ℕ, ◌+◌, ◌%◌, ◌<◌, sym, ap, ◌∙◌, ap₂, ⊎_elim, mod-eq_of_lt, arith}
use Rattle.polynomial.specs.Polynomials.{byte_product, byte_polynomial}
use Rattle.polynomial.proofs.Linearity.{nil_product, product_nil}
use Rattle.polynomial.proofs.Logarithms.{power_mod, product_powers}
use Rattle.polynomial.proofs.Moduli.{byte_primitive}
use Rattle.field.proofs.byte.ByteFieldNumberSystem.mul.Goals as goal

-- a byte is its own remainder
reduced : (a b r : ℕ) → a < 256 → b < 256 → r ≡ byte_product a b → r ≡ byte_product (a % 256) (b % 256)
reduced a b r ha hb e = e ∙ sym (ap₂ byte_product (mod-eq_of_lt ha) (mod-eq_of_lt hb))

pub returns-then-b-eq0 : goal.returns-then-b-eq0
returns-then-b-eq0 c =
    let a = c.args.a in
    let b = c.args.b in
    let none : 0 ≡ byte_product a b =
    ⊎_elim (λ z. sym (ap (λ x. byte_product x b) z ∙ nil_product 8 byte_polynomial b))
    (λ z. sym (ap (byte_product a) z.1 ∙ product_nil 8 byte_polynomial a)) c.if-b-eq0.either
    in
    record { product = reduced a b 0 (omega arith) (omega arith) none; polynomial = none }

pub returns-else-b-eq0 : goal.returns-else-b-eq0
returns-else-b-eq0 c =
    let a = c.args.a in
    let b = c.args.b in
    let i = c.logarithm_of.result in
    let j = c.logarithm_of-else-b-eq0.result in
    let whole : c.power_of.result ≡ byte_product a b =
    c.power_of.ensures ∙ power_mod byte_primitive (i + j) ∙ sym (product_powers byte_primitive i j)
    ∙ ap₂ byte_product (c.logarithm_of.ensures.power (omega arith)) (c.logarithm_of-else-b-eq0.ensures.power (omega arith))
    in
    record { product = reduced a b c.power_of.result (omega arith) (omega arith) whole; polynomial = whole }
