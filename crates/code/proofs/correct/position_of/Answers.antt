use Rattle.std.proofs.Common.{◌≡◌, suc, ◌-◌, sym, ap, ◌∙◌, arith, below_more}
use Rattle.field.proofs.Symbols.{symbol_is, product_is}
use Rattle.code.specs.Codewords.{locator}
use Rattle.code.proofs.correct.position_of.Goals as goal

pub loop-p-preserved : goal.loop-p-preserved
loop-p-preserved g c =
    let s = g.F.NumberSystem.system in
    let behind = c.args.n - c.loop-p.p in
    let more : suc behind ≡ c.args.n - (c.loop-p.p - 1) = omega arith in
    let inv = c.loop-p.invariant in
    record {
      next = c.mul-l.ensures
          ∙ product_is s c.loop-p.l c.ALPHA.result (locator s behind) s.root inv.next (symbol_is s c.ALPHA.result s.root (c.ALPHA.ensures ∙ g.met.F.NumberSystem.root_is))
          ∙ ap (λ m. (locator s m).code) more;
      passed = λ i l. below_more (λ i. c.args.x ≡ (locator s i).code → ⊥) behind inv.passed (λ e. c.if-l-x.false (inv.next ∙ sym e)) i (omega arith);
    }

pub returns-then-l-x : goal.returns-then-l-x
returns-then-l-x g c =
    let s = g.F.NumberSystem.system in
    let here : c.args.n - c.loop-p.p ≡ c.args.n - 1 - (c.loop-p.p - 1) = omega arith in
    (omega arith, sym c.if-l-x.true ∙ c.loop-p.invariant.next ∙ ap (λ n. (locator s n).code) here)
