use Rattle.std.proofs.Common.{ℕ, ◌<◌, false, get_or, MatchBool}
use Rattle.code.specs.Codewords.{Codeword, symbols}
use Rattle.grid.specs.Grids.{check_symbols, row}
use Rattle.grid.proofs.rows.codeword_rows.Given as goal

abbrev pub invariant-loop-r : goal.invariant-loop-r
invariant-loop-r g l =
    let s = g.F.NumberSystem.system in
    (k : ℕ) → k < l.r
    → MatchBool (get_or l.flags k false) (Codeword s (check_symbols s l.shape) (symbols s (row s l.shape l.bytes k)))
    (Codeword s (check_symbols s l.shape) (symbols s (row s l.shape l.bytes k)) → ⊥)
