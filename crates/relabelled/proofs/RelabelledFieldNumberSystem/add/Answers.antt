use Rattle.std.proofs.Common.{◌%◌, arith}
use lib.Bits.{xor_lt}
use Rattle.relabelled.specs.Labels.{value_small}
use Rattle.relabelled.proofs.RelabelledFieldNumberSystem.add.Goals as goal

pub label_of-requires : goal.label_of-requires
label_of-requires c =
    xor_lt 4 c.value_of.result c.value_of-2.result
    (omega (arith, value_small (c.args.a % 16))) (omega (arith, value_small (c.args.b % 16)))
