use Rattle.std.proofs.Common.{◌≡◌, ◌/◌}
use Rattle.randomizer.specs.Sequence.{after, packed}
use Rattle.randomizer.proofs.sequence.next_byte.Given as goal

abbrev pub invariant-loop-i : goal.invariant-loop-i
invariant-loop-i l = (l.byte ≡ packed (λ i. after l.register i / 64) l._i) × (l.moving ≡ after l.register l._i)
