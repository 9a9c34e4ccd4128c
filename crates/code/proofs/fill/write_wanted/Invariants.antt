use Rattle.std.proofs.Common.{◌≡◌, ℕ, ◌<◌, ◌≤◌, length, get_or}
use Rattle.field.specs.Systems.{opposite_of}
use Rattle.code.specs.Codewords.{syndrome_of}
use Rattle.code.proofs.fill.write_wanted.Given as goal

abbrev pub invariant-loop-s : goal.invariant-loop-s
invariant-loop-s g l =
    let s = g.F.NumberSystem.system in
    record {
      done : (k : ℕ) → k < l.s-index → get_or l.out k 0 ≡ opposite_of s (syndrome_of s k l.known);
      left : (k : ℕ) → l.s-index ≤ k → k < length l.out → get_or l.out k 0 ≡ syndrome_of s k l.known;
    }
