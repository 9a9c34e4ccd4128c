use Rattle.std.proofs.Common.{◌≤◌, refl, arith}
use Rattle.code.specs.Codewords.{count}
use Rattle.code.proofs.Completion.{tested_true, tested_false}
use Rattle.code.proofs.fill.fill.Goals as goal

pub returns-then-not-syndromes_vanish : goal.returns-then-not-syndromes_vanish
returns-then-not-syndromes_vanish g c =
    let s = g.F.NumberSystem.system in
    let sizes = c.in_ok-test_sizes.ensures.sizes in
    let few : count c.args.unknown.now ≤ c.args.checks = omega arith in (
      c.if-unknown-n.false,
      sizes.0,
      sizes.2,
      few,
      tested_false s c.args.unknown.now c.args.symbols.now c.complete.new.out c.if-unknown-n.false sizes.0 c.args.checks few c.complete.ensures c.count_unknown-r.result
          c.syndromes_vanish.result c.count_unknown-r.ensures c.if-not-syndromes_vanish.true c.syndromes_vanish.ensures,
      refl,
    )

pub returns : goal.returns
returns g c =
    let s = g.F.NumberSystem.system in
    let sizes = c.in_ok-test_sizes.ensures.sizes in
    let few : count c.args.unknown.now ≤ c.args.checks = omega arith in (
      c.if-unknown-n.false,
      sizes.0,
      sizes.2,
      few,
      tested_true s c.args.unknown.now c.args.symbols.now c.complete.new.out c.if-unknown-n.false sizes.0 c.args.checks few c.complete.ensures c.count_unknown-r.result
          c.syndromes_vanish.result c.copy_from_slice.new.self c.count_unknown-r.ensures c.if-not-syndromes_vanish.false c.syndromes_vanish.ensures
          c.copy_from_slice.ensures.after,
    )
