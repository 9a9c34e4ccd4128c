use Rattle.std.proofs.Common.{◌≡◌, ℕ, ◌*◌, ◌%◌, ◌<◌, length, get_or}
use Rattle.randomizer.specs.Sequence.{after, byte_at}
use Rattle.randomizer.proofs.sequence.sequence_of.Given as goal

abbrev pub invariant-loop-byte : goal.invariant-loop-byte
invariant-loop-byte l = record {
  long : length l.byte-items ≡ 88;
  written : (k : ℕ) → k < l.byte-index → get_or l.byte-items k 0 ≡ byte_at l.preset k;
  register : l.register ≡ after (l.preset % 128) (8 * l.byte-index);
}
