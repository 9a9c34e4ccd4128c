use Rattle.std.proofs.Common.{◌≡◌, ℕ, ◌%◌, ◌<◌, get_or}
use Rattle.byte_string.specs.Bytes.{Bytes}
use Rattle.grid.specs.Packing.{symbol_at}
use Rattle.grid.proofs.packing.pack.Given as goal

abbrev pub invariant-loop-p : goal.invariant-loop-p
invariant-loop-p g l =
    let s = g.F.NumberSystem.system in
    record { packed : (k : ℕ) → k < l.p → symbol_at s l.bytes k ≡ get_or l.symbols k 0 % s.order; bytes : Bytes l.bytes }
