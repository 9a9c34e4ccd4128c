use Rattle.std.proofs.Common.{◌≡◌, ℕ, ◌<◌, ◌≤◌, length, get_or}
use Rattle.field.specs.Systems.{product_of, partner_of, difference_of}
use Rattle.code.proofs.solve.divide.Given as goal

abbrev pub invariant-loop-k : goal.invariant-loop-k
invariant-loop-k g l =
    let s = g.F.NumberSystem.system in
    let old = l.initial.values in
    record {
      done : (j : ℕ) → j < l.k → get_or l.values j 0 ≡ product_of s (get_or old j 0) (partner_of s (difference_of s (get_or l.locators j 0) l.x));
      left : (j : ℕ) → l.k ≤ j → j < length old → get_or l.values j 0 ≡ get_or old j 0;
    }
