use Rattle.std.proofs.Common.{◌≡◌, ℕ, ◌<◌, ◌≤◌, get_or}
use lib.Bits.{bit_xor}
use Rattle.randomizer.proofs.sequence.randomize.Given as goal

-- each byte below i is under the sequence, and the others are as they were
abbrev pub invariant-loop-i : goal.invariant-loop-i
invariant-loop-i l =
    ((k : ℕ) → k < l.i → get_or l.block k 0 ≡ bit_xor (get_or l.initial.block k 0) (get_or l.sequence k 0))
    × ((k : ℕ) → l.i ≤ k → get_or l.block k 0 ≡ get_or l.initial.block k 0)
