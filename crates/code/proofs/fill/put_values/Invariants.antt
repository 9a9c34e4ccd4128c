use Rattle.code.specs.Erasures.{merged}
use Rattle.code.proofs.Marks.{Merging}
use Rattle.code.proofs.fill.put_values.Given as goal

abbrev pub invariant-loop-p : goal.invariant-loop-p
invariant-loop-p l = Merging l.unknown (merged l.unknown l.initial.out l.values) l.p l.out l.left.rest.now
