-- Products and inverses by labels.
use Rattle.std.proofs.Common.{◌≡◌, ℕ, zero, suc, ◌+◌, ◌-◌, ◌%◌, ◌<◌, sym, refl, ap, ◌∙◌, not-suc-le-zero, add-one, arith}
use Rattle.polynomial.specs.Polynomials.{half_byte_polynomial, half_byte_product}
use Rattle.polynomial.proofs.Linearity.{x_power, nil_product, product_nil}
use Rattle.polynomial.proofs.Logarithms.{power_small, product_powers}
use Rattle.polynomial.proofs.Laws.{partner, partner_nil, partner_only}
use Rattle.polynomial.proofs.Moduli.{half_byte_primitive}
use Rattle.relabelled.specs.Labels.{value_of, label_of, label_nil, label_power}

value_nil : value_of 0 ≡ 0
unfolding value_of
value_nil = refl

pub nil_label : (b : ℕ) → label_of (half_byte_product (value_of 0) (value_of b)) ≡ 0
nil_label b = ap label_of (ap (λ x. half_byte_product x (value_of b)) value_nil ∙ nil_product 4 half_byte_polynomial (value_of b)) ∙ label_nil

pub label_times_nil : (a : ℕ) → label_of (half_byte_product (value_of a) (value_of 0)) ≡ 0
label_times_nil a = ap label_of (ap (half_byte_product (value_of a)) value_nil ∙ product_nil 4 half_byte_polynomial (value_of a)) ∙ label_nil

-- the product adds the exponents
pub label_product : (a b : ℕ) → 0 < a → 0 < b → label_of (half_byte_product (value_of a) (value_of b)) ≡ (a + b - 2) % 15 + 1
unfolding value_of
label_product zero b p q = absurd (not-suc-le-zero p)
label_product (suc i) zero p q = absurd (not-suc-le-zero q)
label_product (suc i) (suc j) p q =
    let less : suc i + suc j - 2 ≡ i + j = omega arith in
    ap label_of (product_powers half_byte_primitive i j) ∙ label_power (i + j) ∙ sym (add-one ((i + j) % 15)) ∙ ap (λ m. m % 15 + 1) (sym less)

pub nil_partner : label_of (partner half_byte_primitive (value_of 0)) ≡ 0
nil_partner = ap label_of (ap (partner half_byte_primitive) value_nil ∙ partner_nil half_byte_primitive) ∙ label_nil

-- the inverse turns the exponent
pub label_partner : (a : ℕ) → 0 < a → a < 16 → label_of (partner half_byte_primitive (value_of a)) ≡ (16 - a) % 15 + 1
unfolding value_of
label_partner zero p h = absurd (not-suc-le-zero p)
label_partner (suc i) p h =
    let less : 16 - suc i ≡ 15 - i = omega arith in
    let round : i + (15 - i) ≡ 15 = omega arith in
    ap label_of
    (sym
    (partner_only half_byte_primitive (x_power 4 half_byte_polynomial i) (x_power 4 half_byte_polynomial (15 - i))
    (power_small half_byte_primitive i) (power_small half_byte_primitive (15 - i))
    (product_powers half_byte_primitive i (15 - i) ∙ ap (x_power 4 half_byte_polynomial) round ∙ half_byte_primitive.round)))
    ∙ label_power (15 - i) ∙ sym (add-one ((15 - i) % 15)) ∙ ap (λ m. m % 15 + 1) (sym less)
