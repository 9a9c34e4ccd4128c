use Rattle.std.proofs.Common.{◌≡◌, ◌+◌, ◌*◌, ◌/◌, ◌%◌, ◌<◌, length, ℕ, List, get_or, set, refl, subst, length-set, sym, ap, ◌∙◌, arith}
use Rattle.std.proofs.lemmas.List.FromFn.{fill_by_all}
use Rattle.std.proofs.lemmas.List.Edits.{fill_by_more}
use Rattle.randomizer.specs.Sequence.{after, packed, byte_at, sequence_of}
use Rattle.randomizer.proofs.Register.{after_none, after_add, after_small, byte_from, starts, recurs}
use Rattle.randomizer.proofs.sequence.sequence_of.Goals as goal

fill_more : (f : ℕ → ℕ) (xs : List ℕ) (j v : ℕ) → j < length xs → v ≡ f j → ((k : ℕ) → k < j → get_or xs k 0 ≡ f k)
    → (k : ℕ) → k < j + 1 → get_or (set xs j v) k 0 ≡ f k
fill_more f xs j v lt e h =
    let P : ℕ → Type 0 = λ x. (k : ℕ) → k < j + 1 → get_or (set xs j x) k 0 ≡ f k in subst P (sym e) (fill_by_more f xs j 0 lt h)

pub loop-byte-init : goal.loop-byte-init
loop-byte-init c = record { long = refl; written = λ k h. absurd (omega arith); register = sym (after_none (c.args.preset % 128)) }

pub next_byte-requires : goal.next_byte-requires
next_byte-requires c =
    let a = after_small (c.args.preset % 128) (8 * c.loop-byte.byte-index) (omega arith) in
    let e = c.loop-byte.invariant.register in
    omega arith

pub loop-byte-preserved : goal.loop-byte-preserved
loop-byte-preserved c =
    let p = c.args.preset in
    let j = c.loop-byte.byte-index in
    let e = c.loop-byte.invariant.register in
    let long = c.loop-byte.invariant.long in
    let n : 8 * j + 8 ≡ 8 * (j + 1) = omega arith in
    let byte : c.next_byte.result.0 ≡ byte_at p j = c.next_byte.ensures.byte ∙ ap (λ x. packed (λ i. after x i / 64) 8) e ∙ byte_from p j in
    record {
      long = simp length-set long;
      written = fill_more (byte_at p) c.loop-byte.byte-items j _ (omega arith) byte c.loop-byte.invariant.written;
      register = c.next_byte.ensures.register ∙ ap (λ x. after x 8) e ∙ after_add (p % 128) (8 * j) 8 ∙ ap (after (p % 128)) n;
    }

pub returns : goal.returns
unfolding sequence_of
returns c =
    record {
      bytes = fill_by_all (byte_at c.args.preset) c.loop-byte.byte-items 88 0 c.loop-byte.invariant.long (λ k h. c.loop-byte.invariant.written k (omega arith));
      starts = starts c.args.preset;
      recurs = recurs c.args.preset;
    }
