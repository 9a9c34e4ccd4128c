use Rattle.std.proofs.Common.{sym, ◌∙◌, arith}
use Rattle.std.proofs.lemmas.Bool.{eqb-true}
use Rattle.grid.proofs.Parts.{unpacked_is}
use Rattle.grid.proofs.packing.unpack.Goals as goal

pub returns-clause-after : goal.returns-clause-after
returns-clause-after g c =
    unpacked_is g.F.NumberSystem.system c.args.bytes.now c.loop-p.symbols c.loop-p.p
    (c.loop-p.auto.symbols ∙ eqb-true _ _ (sym c.if-not-go_together.ensures)) (omega arith) c.loop-p.invariant
