use Rattle.std.proofs.Common.{◌≡◌, ℕ, ◌+◌, ◌*◌, ◌<◌}
use Rattle.code.specs.Codewords.{syndrome_of}
use Rattle.grid.specs.Packing.{symbol_at}
use Rattle.grid.specs.Grids.{column, data_symbols}
use Rattle.grid.proofs.columns.column_syndromes.Given as goal

abbrev pub invariant-loop-j : goal.invariant-loop-j
invariant-loop-j g l =
    let s = g.F.NumberSystem.system in
    (i k : ℕ) → i < l.shape.check_rows → k < l.j → symbol_at s l.syndromes (i * data_symbols s l.shape + k) ≡ syndrome_of s i (column s l.shape l.bytes k)
