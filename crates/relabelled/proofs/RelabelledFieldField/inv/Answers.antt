use Rattle.std.proofs.Common.{◌%◌, sym, arith}
use Rattle.relabelled.proofs.Labels.{nil_partner, label_partner}
use Rattle.relabelled.proofs.RelabelledFieldField.inv.Goals as goal

pub returns-in-0-clause-partner : goal.returns-in-0-clause-partner
returns-in-0-clause-partner c = rw c.in-0.is (sym nil_partner)

pub returns-in_default-clause-partner : goal.returns-in_default-clause-partner
returns-in_default-clause-partner c = sym (label_partner (c.args.a % 16) (omega arith) (omega arith))
