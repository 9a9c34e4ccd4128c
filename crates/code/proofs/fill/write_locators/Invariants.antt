use Rattle.std.proofs.Common.{◌≡◌, ◌+◌, ◌++◌, length, take}
use Rattle.code.specs.Codewords.{symbols, count}
use Rattle.code.specs.Erasures.{picked, locators}
use Rattle.code.proofs.fill.write_locators.Given as goal

abbrev pub invariant-loop-place : goal.invariant-loop-place
invariant-loop-place g l =
    let s = g.F.NumberSystem.system in
    let rest = l.left.rest.now in
    record {
      long : l.place-index + count rest ≡ length l.out;
      so_far : symbols s (take l.place-index l.out) ++ picked rest (locators s (length rest)) ≡ picked l.unknown (locators s (length l.unknown));
    }
