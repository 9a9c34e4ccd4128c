use Rattle.grid.proofs.LineWork.{written_more}
use Rattle.grid.proofs.lines.Line.scatter.Goals as goal

pub loop-i-preserved : goal.loop-i-preserved
loop-i-preserved g c =
    written_more g.F.NumberSystem.system c.args.self.now c.loop-i.i c.args.word.now c.args.bytes.now c.loop-i.bytes c.set_symbol.new.bytes
    c.loop-i.invariant c.set_symbol.ensures.this c.set_symbol.ensures.others
