use Rattle.grid.proofs.LineWork.{fill_redone}
use Rattle.grid.proofs.lines.Line.fill.Goals as goal

pub returns : goal.returns
returns g c =
    fill_redone g.F.NumberSystem.system c.args.self.now c.args.unknown.now c.args.bytes.now c.scatter.new.bytes c.gather.new.out c.fill.new.symbols c.fill.result
    c.requires.within.few c.requires.marks.0 c.requires.marks.1 c.gather.ensures c.fill.auto.symbols c.fill.ensures c.scatter.ensures
