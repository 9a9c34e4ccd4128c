use Rattle.std.proofs.Common.{◌≡◌, sym, refl, ap, ◌∙◌, add-one, arith}
use Rattle.field.specs.Arithmetic.{power}
use Rattle.field.specs.Systems.{symbol, power_of}
use Rattle.field.proofs.Symbols.{product_is}
use Rattle.field.proofs.power.Goals as goal

pub loop-k-init : goal.loop-k-init
loop-k-init g c = sym g.F.NumberSystem.system.one_is

pub loop-k-preserved : goal.loop-k-preserved
loop-k-preserved g c =
    let s = g.F.NumberSystem.system in
    let x = symbol s c.args.x in
    c.mul-r.ensures ∙ product_is s c.loop-k.r c.args.x (power s.on x c.loop-k._k) x c.loop-k.invariant refl
    ∙ ap (λ n. power_of s c.args.x n) (sym (add-one c.loop-k._k))

pub returns : goal.returns
returns g c =
    let e : c.loop-k._k ≡ c.args.n = omega arith in
    c.loop-k.invariant ∙ ap (λ n. power_of g.F.NumberSystem.system c.args.x n) e
