use Rattle.std.proofs.Common.{◌≡◌, ◌*◌, length, map, ◌%◌, sym, ap, ◌∙◌, arith}
use Rattle.std.proofs.lemmas.Bool.{eqb-true}
use Rattle.grid.specs.Packing.{unpacked}
use Rattle.grid.proofs.Parts.{packed_is, packed_undoes}
use Rattle.grid.proofs.packing.pack.Given.{Over}
use Rattle.grid.proofs.packing.pack.Goals as goal
use Rattle.grid.proofs.packing.pack.Goals.{After-loop-p}

packed : (g : Over) (c : After-loop-p g) → unpacked g.F.NumberSystem.system c.loop-p.bytes ≡ map (λ x. x % g.F.NumberSystem.system.order) c.args.symbols.now
packed g c =
    let s = g.F.NumberSystem.system in
    let long : length c.args.symbols.now ≡ length c.loop-p.bytes * s.per =
    eqb-true _ _ (sym c.if-not-go_together.ensures) ∙ ap (λ n. n * s.per) (sym c.loop-p.auto.bytes)
    in
    packed_is s c.loop-p.bytes c.args.symbols.now c.loop-p.p long (omega arith) c.loop-p.invariant.packed

pub returns-clause-after : goal.returns-clause-after
returns-clause-after g c = packed g c

pub returns-clause-undoes : goal.returns-clause-undoes
returns-clause-undoes g c = packed_undoes g.F.NumberSystem.system c.loop-p.bytes c.args.symbols.now c.loop-p.invariant.bytes (packed g c)
