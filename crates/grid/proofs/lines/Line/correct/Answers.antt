use Rattle.std.proofs.Common.{sym}
use Rattle.grid.proofs.LineWork.{corrected_then, corrected_else}
use Rattle.grid.proofs.lines.Line.correct.Goals as goal

pub returns-then-is_corrected : goal.returns-then-is_corrected
returns-then-is_corrected g c =
    let w = c.requires.whole in
    corrected_then g.F.NumberSystem.system c.args.self.now c.args.bytes.now w.0 w.1 w.2 c.gather.new.out c.correct-verdict.new.symbols c.correct-verdict.result
    c.gather.ensures c.correct-verdict.ensures c.scatter.new.bytes c.scatter.auto.bytes c.correct-verdict.auto.symbols (sym c.if-is_corrected.ensures) c.scatter.ensures

pub returns-else-is_corrected : goal.returns-else-is_corrected
returns-else-is_corrected g c =
    let w = c.requires.whole in
    corrected_else g.F.NumberSystem.system c.args.self.now c.args.bytes.now w.0 w.1 w.2 c.gather.new.out c.correct-verdict.new.symbols c.correct-verdict.result
    c.gather.ensures c.correct-verdict.ensures (sym c.if-is_corrected.ensures)
