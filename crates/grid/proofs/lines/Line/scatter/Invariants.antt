use Rattle.grid.specs.Line.{Written}
use Rattle.grid.proofs.lines.Line.scatter.Given as goal

abbrev pub invariant-loop-i : goal.invariant-loop-i
invariant-loop-i g l = Written g.F.NumberSystem.system l.self l.i l.word l.initial.bytes l.bytes
