use Rattle.std.proofs.Common.{◌≡◌, ℕ, ◌+◌, ◌*◌, ◌<◌, get_or}
use Rattle.grid.specs.Packing.{symbol_at}
use Rattle.grid.proofs.lines.Line.gather.Given as goal

abbrev pub invariant-loop-i : goal.invariant-loop-i
invariant-loop-i g l =
    (k : ℕ) → k < l.i → get_or l.out k 0 ≡ symbol_at g.F.NumberSystem.system l.bytes (k * l.self.step + l.self.start)
