use Rattle.std.proofs.Common.{ap, ◌∙◌}
use Rattle.field.specs.Arithmetic.{power}
use Rattle.field.proofs.Symbols.{symbol_is}
use Rattle.code.proofs.syndrome.locator.Goals as goal

pub returns : goal.returns
returns g c =
    let s = g.F.NumberSystem.system in
    c.power.ensures ∙ ap (λ x. (power s.on x c.args.behind).code) (symbol_is s c.ALPHA.result s.root (c.ALPHA.ensures ∙ g.met.F.NumberSystem.root_is))
