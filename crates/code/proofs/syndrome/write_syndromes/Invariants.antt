use Rattle.std.proofs.Common.{◌≡◌, ℕ, ◌<◌, get_or}
use Rattle.code.specs.Codewords.{syndrome_of}
use Rattle.code.proofs.syndrome.write_syndromes.Given as goal

abbrev pub invariant-loop-i : goal.invariant-loop-i
invariant-loop-i g l = (k : ℕ) → k < l.i → get_or l.out k 0 ≡ syndrome_of g.F.NumberSystem.system k l.symbols
