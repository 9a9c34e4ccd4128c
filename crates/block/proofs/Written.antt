-- The identification as it is written is right.
use Rattle.std.proofs.Common.{arith}
use Rattle.std.proofs.lemmas.Bool.Decides.{nat_tests}
use Rattle.block.specs.Identification.{WrittenIsRight}
use Rattle.block.specs.declared.layout.Layout.TheVariants.{Audio, Video, Subcode}

pub written_is_right : WrittenIsRight
written_is_right Audio pair row body = grind (arith, nat_tests)
written_is_right Video pair row body = grind (arith, nat_tests)
written_is_right Subcode pair row body = grind (arith, nat_tests)
