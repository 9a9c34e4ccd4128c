use Rattle.std.proofs.Common.{◌∙◌}
use Rattle.grid.proofs.Parts.{replaced_at}
use Rattle.grid.proofs.packing.set_symbol.Goals as goal

pub returns : goal.returns
returns g c =
    let done =
    replaced_at g.F.NumberSystem.system c.args.bytes.now c.args.p c.PER_BYTE-m.result c.replace_part.result c.args.v c.requires
    (c.PER_BYTE-m.ensures ∙ g.met.F.NumberSystem.per_is) c.replace_part.ensures.this c.replace_part.ensures.others
    in
    record { this = done.0; others = done.1 }
