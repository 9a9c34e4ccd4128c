use Rattle.std.proofs.Common.{arith}
use Rattle.code.proofs.Marks.{blanked_is}
use Rattle.code.proofs.fill.blank.Goals as goal

pub returns : goal.returns
returns c =
    blanked_is 0 c.args.unknown.now c.args.symbols.now c.loop-p.symbols (omega arith) (λ p l. c.loop-p.invariant.done p (omega arith))
