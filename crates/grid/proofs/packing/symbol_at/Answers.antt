use Rattle.std.proofs.Common.{◌≡◌, ◌/◌, ◌%◌, get_or, sym, ap, ◌∙◌}
use Rattle.std.proofs.lemmas.Bool.{ltb-true, ltb-false}
use Rattle.std.proofs.lemmas.Grind.{get_or_default_zero}
use Rattle.field.proofs.Sizes.{per_some}
use Rattle.grid.specs.Packing.{part, symbol_at}
use Rattle.grid.proofs.Parts.{part_of_lt, symbol_past}
use Rattle.grid.proofs.packing.symbol_at.Goals as goal

pub nonzero_rem-p : goal.nonzero_rem-p
nonzero_rem-p g c = rw (c.PER_BYTE-m.ensures ∙ g.met.F.NumberSystem.per_is) (per_some g.F.NumberSystem.system)

pub part_of-requires : goal.part_of-requires
part_of-requires g c = rw (c.PER_BYTE-m.ensures ∙ g.met.F.NumberSystem.per_is) (part_of_lt g.F.NumberSystem.system c.args.p)

pub returns-in-Some : goal.returns-in-Some
unfolding symbol_at
returns-in-Some g c =
    let s = g.F.NumberSystem.system in
    let i = c.args.p / c.PER_BYTE-m.result in
    let here : c.in-Some.b.now ≡ get_or c.args.bytes.now i 0 =
    c.in-Some.ensures.lookup.1 ∙ get_or_default_zero c.args.bytes.now i c.in-Some.b.now (ltb-true _ _ (sym c.in-Some.ensures.lookup.0))
    in
    c.part_of.ensures ∙ ap (λ b. part s b (c.args.p % c.PER_BYTE-m.result)) here
    ∙ ap (λ n. part s (get_or c.args.bytes.now (c.args.p / n) 0) (c.args.p % n)) (c.PER_BYTE-m.ensures ∙ g.met.F.NumberSystem.per_is)

pub returns-in-None : goal.returns-in-None
returns-in-None g c =
    symbol_past g.F.NumberSystem.system c.args.bytes.now c.args.p c.PER_BYTE-m.result (c.PER_BYTE-m.ensures ∙ g.met.F.NumberSystem.per_is)
    (ltb-false _ _ (sym c.in-None.ensures.lookup.0))
