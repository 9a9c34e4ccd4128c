use Rattle.std.proofs.Common.{◌≡◌, ℕ, ◌<◌, ◌≤◌, ◌∷◌, length, get_or}
use Rattle.field.specs.Systems.{product_of, difference_of}
use Rattle.code.proofs.solve.eliminate.Given as goal

abbrev pub invariant-loop-sum : goal.invariant-loop-sum
invariant-loop-sum g l =
    let s = g.F.NumberSystem.system in
    let old = l.initial.others in
    record {
      before_is : l.before ≡ get_or (l.first ∷ old) l.sum-index 0;
      done : (k : ℕ) → k < l.sum-index → get_or l.others k 0 ≡ difference_of s (get_or old k 0) (product_of s l.x (get_or (l.first ∷ old) k 0));
      left : (k : ℕ) → l.sum-index ≤ k → k < length old → get_or l.others k 0 ≡ get_or old k 0;
    }
