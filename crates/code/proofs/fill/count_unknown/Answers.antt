use Rattle.std.proofs.Common.{◌∙◌, arith, rules, tests}
use Rattle.std.proofs.lemmas.Iterator.{YieldsList-from_slice, YieldsList-from_map}
use Rattle.std.proofs.lemmas.Iterator.Consumers.{sum_by_from_yields_List, fits_by_from_yields_list}
use Rattle.code.proofs.Marks.{bit_of, sum_marks, count_at_most}
use Rattle.code.proofs.fill.count_unknown.Goals as goal

pub sum-requires-clause-fits : goal.sum-requires-clause-fits
sum-requires-clause-fits c =
    let bs = c.args.unknown.now in
    fits_by_from_yields_list bit_of bs c.map.result _
    (YieldsList-from_map _ bit_of (YieldsList-from_slice bs cc) c.map.ensures.closure (λ x r q k. search (rules, tests)))
    (omega (arith, sum_marks bs, count_at_most bs, c.iter.ensures.bound))

pub returns : goal.returns
returns c =
    let bs = c.args.unknown.now in
    let ones =
    sum_by_from_yields_List bit_of bs c.map.result _ c.sum.ensures.ran
    (YieldsList-from_map _ bit_of (YieldsList-from_slice bs cc) c.map.ensures.closure (λ x r q k. search (rules, tests)))
    ∙ sum_marks bs in
    search (rules, ones)
