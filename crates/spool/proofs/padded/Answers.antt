use Rattle.std.proofs.Common.{length, arith}
use Rattle.spool.proofs.Table.{padded_bytes}
use Rattle.spool.proofs.padded.Goals as goal

pub returns-clause-bytes : goal.returns-clause-bytes
returns-clause-bytes c =
    padded_bytes c.args.block.now c.copy_from_slice.new.self (length c.args.block.now) c.copy_from_slice.ensures.after
    (λ j. omega (arith, c.type_inv.block j))
