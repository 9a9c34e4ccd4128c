use Rattle.std.proofs.Common.{◌≡◌, ℕ, ◌<◌, get_or}
use Rattle.grid.specs.Packing.{symbol_at}
use Rattle.grid.proofs.packing.unpack.Given as goal

abbrev pub invariant-loop-p : goal.invariant-loop-p
invariant-loop-p g l = (k : ℕ) → k < l.p → get_or l.symbols k 0 ≡ symbol_at g.F.NumberSystem.system l.bytes k
