use Rattle.std.proofs.Common.{◌≡◌, get_or, ap, ap₂, ◌∙◌, arith, get_or-set_other}
use Rattle.field.specs.Systems.{product_of, partner_of, difference_of}
use Rattle.code.proofs.Places.{each_set}
use Rattle.code.proofs.solve.divide.Goals as goal

pub loop-k-preserved : goal.loop-k-preserved
loop-k-preserved g c =
    let s = g.F.NumberSystem.system in
    let k = c.loop-k.k in
    let now = c.loop-k.values in
    let old = c.args.values.now in
    let here : get_or now k 0 ≡ get_or old k 0 = c.loop-k.invariant.left k (omega arith) (omega arith) in
    record {
      done = each_set 0 (λ j v. v ≡ product_of s (get_or old j 0) (partner_of s (difference_of s (get_or c.args.locators.now j 0) c.args.x))) now k c.mul.result
          (omega arith) c.loop-k.invariant.done
          (c.mul.ensures ∙ ap₂ (product_of s) here (c.inv.ensures ∙ ap (partner_of s) c.sub.ensures));
      left = λ j h l. get_or-set_other now k j c.mul.result 0 (omega arith) ∙ c.loop-k.invariant.left j (omega arith) l;
    }
