use Rattle.std.proofs.Common.{◌≡◌, suc, ◌/◌, ◌%◌, sym, refl, ap, ◌∙◌, div-one, add-one, arith}
use Rattle.std.proofs.lemmas.Nat.{shr-shr}
use Rattle.polynomial.specs.Polynomials.{coefficient, times_x, times_power, times_part, product, half_byte_polynomial}
use Rattle.polynomial.proofs.Linearity.{part_with, part_without}
use Rattle.field.proofs.half_byte.HalfByteFieldNumberSystem.mul.Goals as goal
use Rattle.field.proofs.half_byte.HalfByteFieldNumberSystem.mul.Goals.{then-left-eq1, else-left-eq1}

pub loop-i-init : goal.loop-i-init
unfolding times_power times_part
loop-i-init c = (omega arith, refl, sym (div-one (c.args.b % 16)), refl)

pub loop-i-preserved : goal.loop-i-preserved
unfolding times_power
loop-i-preserved c =
    let i = c.loop-i._i in
    let a = c.args.a % 16 in
    let b = c.args.b % 16 in
    let p = half_byte_polynomial in
    let shifts = c.loop-i.invariant.1 in
    let left_is = c.loop-i.invariant.2 in
    let sums = c.loop-i.invariant.3 in
    let bit : coefficient i b ≡ c.loop-i.left % 2 = sym (ap (λ x. x % 2) left_is) in
    let next : c.if-left-eq1.r ≡ times_part 4 p (suc i) a b =
    elim c.if-left-eq1.branch [
      | then-left-eq1 w ↦ w.r-is ∙ part_with 4 p i a b c.loop-i.r c.loop-i.shifted sums shifts (bit ∙ w.if-left-eq1.true)
      | else-left-eq1 w ↦ w.r-is
          ∙ part_without 4 p i a b c.loop-i.r sums (let none : c.loop-i.left % 2 ≡ 0 = omega (arith, w.if-left-eq1.false) in bit ∙ none)
    ]
    in (
      c.times_x-shifted.ensures.small,
      c.times_x-shifted.ensures.shifted ∙ ap (times_x 4 p) shifts ∙ ap (λ j. times_power 4 p j a) (sym (add-one i)),
      ap (λ x. x / 2) left_is ∙ shr-shr b i 1,
      next ∙ ap (λ j. times_part 4 p j a b) (sym (add-one i)),
    )

pub returns : goal.returns
unfolding product
returns c =
    let end : c.loop-i._i ≡ 4 = omega arith in
    let whole = c.loop-i.invariant.3 ∙ ap (λ j. times_part 4 half_byte_polynomial j (c.args.a % 16) (c.args.b % 16)) end in
    record { product = whole; polynomial = whole }
