use Rattle.std.proofs.Common.{◌≡◌, refl, ℕ, ◌≤◌, ◌%◌, List, [], ◌∷◌, length, arith, rules, tests}
use Rattle.std.specs.List.{sum_by}
use Rattle.std.proofs.lemmas.List.Sums.{sum_by-cons}
use Rattle.std.proofs.lemmas.Bool.Decides.{nat_tests}
use Rattle.std.proofs.lemmas.Iterator.{YieldsList-from_slice, YieldsList-from_map}
use Rattle.std.proofs.lemmas.Iterator.Consumers.{sum_by_from_yields_List, fits_by_from_yields_list}
use Rattle.block.specs.Identification.{bit, parity}
use Rattle.block.proofs.identification.parity_of.Goals as goal

few : (n : ℕ) (is : List ℕ) → sum_by (bit n) is ≤ length is
few n [] = omega arith
few n (i ∷ is) = rw (sum_by-cons (bit n) i is) (omega (arith, few n is))

summed : (n : ℕ) (is : List ℕ) → sum_by (bit n) is % 2 ≡ parity n is
summed n [] = refl
summed n (i ∷ is) = rw (sum_by-cons (bit n) i is) (grind (arith, summed n is))

pub sum-ones-requires-clause-fits : goal.sum-ones-requires-clause-fits
sum-ones-requires-clause-fits c =
    let is = c.args.bits.now in
    fits_by_from_yields_list (bit c.args.c) is c.map.result _
    (YieldsList-from_map _ (bit c.args.c) (YieldsList-from_slice is cc) c.map.ensures.closure (λ x r q k. search (rules, tests)))
    (omega (arith, few c.args.c is, c.iter.ensures.bound))

pub returns : goal.returns
returns c =
    let is = c.args.bits.now in
    let ones =
    sum_by_from_yields_List (bit c.args.c) is c.map.result _ c.sum-ones.ensures.ran
    (YieldsList-from_map _ (bit c.args.c) (YieldsList-from_slice is cc) c.map.ensures.closure (λ x r q k. search (rules, tests))) in
    grind (arith, nat_tests, ones, summed c.args.c is, c.from.ensures)
