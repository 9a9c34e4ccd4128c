use Rattle.std.proofs.Common.{◌%◌, sym, refl, arith}
use Rattle.relabelled.specs.Labels.{label_value}
use Rattle.relabelled.proofs.RelabelledFieldNumberSystem.neg.Goals as goal

pub returns : goal.returns
returns c = record { opposite = sym (label_value (c.args.a % 16) (omega arith)); same = refl }
