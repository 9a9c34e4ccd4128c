use Rattle.std.proofs.Common.{ℕ, ◌/◌, ◌<◌, sym, ap, ◌∙◌, arith, pow_mono}
use Rattle.randomizer.specs.Sequence.{after, packed, moved}
use Rattle.randomizer.proofs.Register.{after_none, after_more, packed_none, packed_more, packed_small, bit_small}
use Rattle.randomizer.proofs.sequence.next_byte.Goals as goal

-- seven bits are below 128
seven : (x i : ℕ) → x < 128 → i < 8 → packed (λ k. after x k / 64) i < 128
seven x i h lt =
    let a = packed_small (λ k. after x k / 64) i (λ k. bit_small x k h) in let b = pow_mono {i = i} {j = 7} (omega arith) in omega arith

pub loop-i-init : goal.loop-i-init
loop-i-init c = (sym (packed_none (λ i. after c.args.register i / 64)), sym (after_none c.args.register))

pub overflow_mul-byte : goal.overflow_mul-byte
overflow_mul-byte c = let a = seven c.args.register c.loop-i._i c.requires c.loop-i-test.true in omega arith

pub overflow_add-byte : goal.overflow_add-byte
overflow_add-byte c =
    let a = seven c.args.register c.loop-i._i c.requires c.loop-i-test.true in
    let b = bit_small c.args.register c.loop-i._i c.requires in
    let e = ap (λ x. x / 64) c.loop-i.invariant.1 in
    omega arith

pub loop-i-preserved : goal.loop-i-preserved
loop-i-preserved c =
    let x = c.args.register in
    let i = c.loop-i._i in
    let m = packed_more (λ k. after x k / 64) i in
    let e = ap (λ y. y / 64) c.loop-i.invariant.1 in
    (omega arith, c.step-moving.ensures ∙ ap moved c.loop-i.invariant.1 ∙ sym (after_more x i))
