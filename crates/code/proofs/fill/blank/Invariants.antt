use Rattle.std.proofs.Common.{◌≡◌, ℕ, ◌<◌, ◌≤◌, false, cond, length, get_or}
use Rattle.code.proofs.fill.blank.Given as goal

abbrev pub invariant-loop-p : goal.invariant-loop-p
invariant-loop-p l = record {
  done : (k : ℕ) → k < l.p → get_or l.symbols k 0 ≡ cond (get_or l.unknown k false) 0 (get_or l.initial.symbols k 0);
  left : (k : ℕ) → l.p ≤ k → k < length l.symbols → get_or l.symbols k 0 ≡ get_or l.initial.symbols k 0;
}
