use Rattle.grid.proofs.LineWork.{encode_redone}
use Rattle.grid.proofs.lines.Line.encode.Goals as goal

pub returns : goal.returns
returns g c =
    let s = g.F.NumberSystem.system in
    let l = c.args.self.now in
    encode_redone s l c.args.bytes.now c.scatter.new.bytes c.gather.new.out c.encode.new.symbols c.encode.result c.requires.within.few
    c.gather.ensures c.encode.auto.symbols c.encode.ensures c.scatter.ensures
