use Rattle.std.proofs.Common.{◌≡◌, sym, refl, ◌∙◌, rules}
use Rattle.std.proofs.lemmas.Fn.{fold_over, fronts}
use Rattle.std.proofs.lemmas.Iterator.{YieldsList-from_slice}
use Rattle.field.specs.Systems.{symbol, sum_of, product_of}
use Rattle.field.proofs.Symbols.{symbol_is, sum_is, product_is}
use Rattle.code.specs.Codewords.{syndrome, symbols, locator, syndrome_of}
use Rattle.code.proofs.Horner.{syndrome_more}
use Rattle.code.proofs.syndrome.syndrome.Goals as goal

pub returns : goal.returns
returns g c =
    let s = g.F.NumberSystem.system in
    let i = c.args.i in
    let X = locator s i in
    let x-is : symbol s c.locator-x.result ≡ X = symbol_is s c.locator-x.result X c.locator-x.ensures in
    fold_over fronts (λ y. y.now) _ (λ ys r. r ≡ syndrome_of s i ys) _
    (λ ys a v b f' h k.
    let e : b ≡ sum_of s (product_of s a c.locator-x.result) v.now = search rules in (
      e ∙ sum_is s (product_of s a c.locator-x.result) v.now (s.on.times (syndrome s i (symbols s ys)) X) (symbol s v.now)
          (product_is s a c.locator-x.result (syndrome s i (symbols s ys)) X h x-is) refl
          ∙ syndrome_more s i ys v.now,
      search rules,
    ))
    _ c.args.symbols.now 0 _ (YieldsList-from_slice c.args.symbols.now c.iter.ensures.rest).runs (sym s.nil_is) c.fold.ensures.ran
