use Rattle.std.proofs.Common.{◌∙◌, arith}
use Rattle.grid.proofs.LineWork.{gathered}
use Rattle.grid.proofs.lines.Line.gather.Goals as goal

pub returns : goal.returns
returns g c =
    let l = c.args.self.now in
    gathered g.F.NumberSystem.system c.loop-i.out c.args.bytes.now l.start l.step l.len c.loop-i.i
    (c.loop-i.auto.out ∙ c.requires) (omega arith) c.loop-i.invariant
