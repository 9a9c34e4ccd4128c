use Rattle.std.proofs.Common.{ℕ, Bool, false, MatchBool, arith}
use Rattle.code.proofs.Places.{each_set}
use Rattle.code.specs.Codewords.{Codeword, symbols}
use Rattle.grid.specs.Grids.{check_symbols, row}
use Rattle.grid.proofs.SizedWork.{judged_row}
use Rattle.grid.proofs.rows.codeword_rows.Goals as goal

pub loop-r-preserved : goal.loop-r-preserved
loop-r-preserved g c =
    let s = g.F.NumberSystem.system in
    let sh = c.args.shape.now in
    each_set false
    (λ (k : ℕ) (b : Bool). MatchBool b (Codeword s (check_symbols s sh) (symbols s (row s sh c.args.bytes.now k))) (Codeword s (check_symbols s sh) (symbols s (row s sh c.args.bytes.now k)) → ⊥))
    c.loop-r.flags c.loop-r.r c.is_codeword.result (omega arith) c.loop-r.invariant
    (judged_row c.in_ok-grid.ensures c.row.ensures c.args.bytes.now c.is_codeword.result c.is_codeword.ensures)
