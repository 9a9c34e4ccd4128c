use Rattle.std.proofs.Common.{◌≡◌, ◌-◌, Bool, false, List, length, take, refl, replicate, arith}
use Rattle.code.proofs.Places.{length_front}
use Rattle.code.proofs.Marks.{count_front, last_filled}
use Rattle.code.proofs.Completion.{encoded}
use Rattle.code.proofs.fill.encode.Goals as goal

pub returns : goal.returns
returns g c =
    let sizes = c.in_ok-test_sizes.ensures.sizes in
    let room = c.in_ok-test_sizes.ensures.room in
    let n = length c.args.symbols.now in
    let marks : List Bool = replicate 255 false in
    let front : length (take (n - 0) marks) ≡ n = length_front marks n (omega arith) in (
      sizes.0,
      sizes.2,
      encoded g.F.NumberSystem.system (n - c.args.checks) c.args.checks _ c.args.symbols.now c.complete.new.out c.copy_from_slice.new.self
          (last_filled (n - c.args.checks) c.args.checks (take (n - 0) marks) c.fill.new.self (omega arith) (count_front (n - 0) marks refl)
          (c.fill.ensures.after (λ y e. e)))
          (omega arith) sizes.0 c.complete.ensures c.copy_from_slice.ensures.after,
    )
