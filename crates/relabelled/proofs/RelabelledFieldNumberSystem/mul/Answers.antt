use Rattle.std.proofs.Common.{◌%◌, sym, arith}
use Rattle.relabelled.proofs.Labels.{nil_label, label_times_nil, label_product}
use Rattle.relabelled.proofs.RelabelledFieldNumberSystem.mul.Goals as goal

pub returns-in_default-clause-product : goal.returns-in_default-clause-product
returns-in_default-clause-product c = sym (label_product (c.args.a % 16) (c.args.b % 16) (omega arith) (omega arith))

pub returns-in-0-default-clause-product : goal.returns-in-0-default-clause-product
returns-in-0-default-clause-product c = rw c.in-0-default.is-0 (sym (nil_label (c.args.b % 16)))

pub returns-in-0-default-2-clause-product : goal.returns-in-0-default-2-clause-product
returns-in-0-default-2-clause-product c = rw c.in-0-default.is-1 (sym (label_times_nil (c.args.a % 16)))
