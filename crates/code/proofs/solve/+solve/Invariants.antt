use Rattle.std.proofs.Common.{length}
use Rattle.code.proofs.solve.+solve.Given as goal

abbrev pub decreases-solve : goal.decreases-solve
decreases-solve g l = length l.locators.now
