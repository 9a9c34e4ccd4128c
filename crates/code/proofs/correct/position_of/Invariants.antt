use Rattle.std.proofs.Common.{◌≡◌, ℕ, ◌-◌, ◌<◌}
use Rattle.code.specs.Codewords.{locator}
use Rattle.code.proofs.correct.position_of.Given as goal

abbrev pub invariant-loop-p : goal.invariant-loop-p
invariant-loop-p g l =
    let s = g.F.NumberSystem.system in
    let behind = l.n - l.p in
    record {
      next : l.l ≡ (locator s behind).code;
      passed : (i : ℕ) → i < behind → l.x ≡ (locator s i).code → ⊥;
    }
