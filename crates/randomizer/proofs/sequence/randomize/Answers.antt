use Rattle.std.proofs.Common.{◌<◌, ◌≤◌, get_or, ◌∙◌, ⊎_elim, arith}
use Rattle.std.proofs.lemmas.Bool.{cases_lt}
use Rattle.randomizer.proofs.Mixing.{mixed_is, mixed_twice, past_sequence}
use Rattle.randomizer.proofs.sequence.randomize.Goals as goal

pub returns : goal.returns
returns c =
    let q = c.args.sequence.now in
    let b = c.args.block.now in
    let i = c.loop-i.i in
    record {
      mixed =
          mixed_is q b c.loop-i.block (omega arith)
          (λ k h.
          ⊎_elim
          (λ (lt : k < i). c.loop-i.invariant.0 k lt)
          (λ (ge : i ≤ k). c.loop-i.invariant.1 k ge ∙ past_sequence q k (get_or b k 0) (omega arith))
          (cases_lt k i));
      twice = mixed_twice q;
    }
