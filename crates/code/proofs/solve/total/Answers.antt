use Rattle.std.proofs.Common.{◌≡◌, sym, refl, ◌∙◌, rules}
use Rattle.std.proofs.lemmas.Fn.{fold_over, fronts}
use Rattle.std.proofs.lemmas.Iterator.{YieldsList-from_slice}
use Rattle.field.specs.Systems.{symbol, sum_of}
use Rattle.field.proofs.Symbols.{sum_is}
use Rattle.code.specs.Codewords.{symbols}
use Rattle.code.specs.Solving.{total}
use Rattle.code.proofs.SolverLevel.{total_more}
use Rattle.code.proofs.solve.total.Goals as goal

pub returns : goal.returns
returns g c =
    let s = g.F.NumberSystem.system in
    fold_over fronts (λ y. y.now) _ (λ ys r. r ≡ (total s (symbols s ys)).code) _
    (λ ys a v b f' h k.
    let e : b ≡ sum_of s a v.now = search rules in
    (e ∙ sum_is s a v.now (total s (symbols s ys)) (symbol s v.now) h refl ∙ total_more s ys v.now, search rules))
    _ c.args.values.now 0 _ (YieldsList-from_slice c.args.values.now c.iter.ensures.rest).runs (sym s.nil_is) c.fold.ensures.ran
