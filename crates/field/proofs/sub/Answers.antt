use Rattle.std.proofs.Common.{ap, ◌∙◌}
use Rattle.field.specs.Systems.{symbol}
use Rattle.field.proofs.Symbols.{symbol_is}
use Rattle.field.proofs.sub.Goals as goal

pub returns : goal.returns
returns g c =
    let s = g.F.NumberSystem.system in
    c.add.ensures
    ∙ ap (λ y. (s.on.plus (symbol s c.args.a) y).code) (symbol_is s c.neg.result (s.on.opp (symbol s c.args.b)) c.neg.ensures)
