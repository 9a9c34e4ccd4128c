use Rattle.std.proofs.Common.{◌≡◌, ◌∷◌, get_or, sym, ap, ap₂, ◌∙◌, add-one, arith, get_or-set_other}
use Rattle.field.specs.Systems.{product_of, difference_of}
use Rattle.code.proofs.Places.{each_set}
use Rattle.code.proofs.solve.eliminate.Goals as goal

pub loop-sum-preserved : goal.loop-sum-preserved
loop-sum-preserved g c =
    let s = g.F.NumberSystem.system in
    let i = c.loop-sum.sum-index in
    let now = c.loop-sum.others in
    let old = c.args.others.now in
    let here : get_or now i 0 ≡ get_or old i 0 = c.loop-sum.invariant.left i (omega arith) c.loop-sum-test.true in
    record {
      before_is = here ∙ ap (λ n. get_or (c.args.first ∷ old) n 0) (sym (add-one i));
      done = each_set 0 (λ k v. v ≡ difference_of s (get_or old k 0) (product_of s c.args.x (get_or (c.args.first ∷ old) k 0))) now i c.sub-less.result (omega arith)
          c.loop-sum.invariant.done
          (c.sub-less.ensures ∙ ap₂ (difference_of s) here (c.mul.ensures ∙ ap (product_of s c.args.x) c.loop-sum.invariant.before_is));
      left = λ k h l. get_or-set_other now i k c.sub-less.result 0 (omega arith) ∙ c.loop-sum.invariant.left k (omega arith) l;
    }
