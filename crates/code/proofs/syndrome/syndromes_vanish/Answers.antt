use Rattle.std.proofs.Common.{◌≡◌, ◌-◌, refl, rules, tests}
use Rattle.std.proofs.lemmas.Iterator.{YieldsList-from_range, cases_from_all}
use Rattle.code.specs.Codewords.{syndrome_of}
use Rattle.code.proofs.Vanishing.{vanish_all}
use Rattle.code.proofs.syndrome.syndromes_vanish.Goals as goal

pub returns : goal.returns
returns g c =
    let s = g.F.NumberSystem.system in
    let xs = c.args.symbols.now in
    vanish_all s c.args.from c.args.to xs c.all.result
    (cases_from_all _ _ _ (λ i. syndrome_of s i xs ≡ 0) (λ i. syndrome_of s i xs ≡ 0 → ⊥) c.all.ensures.ran
    (YieldsList-from_range c.args.from c.args.to (c.args.to - c.args.from) refl refl)
    (λ i q k. search (rules, tests))
    (λ i q k. search (rules, tests)))
