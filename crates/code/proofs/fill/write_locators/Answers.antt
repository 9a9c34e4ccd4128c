use Rattle.std.proofs.Common.{◌+◌, ◌<◌, length, take, ◌++◌, ap, ◌∙◌, rules, tests, arith}
use Rattle.field.proofs.Symbols.{symbol_is}
use Rattle.code.specs.Codewords.{locator, symbols}
use Rattle.code.proofs.Locators.{of_last, next_mark, located_more, located_all}
use Rattle.code.proofs.fill.write_locators.Goals as goal
use Rattle.code.proofs.fill.write_locators.Goals.{then-any, else-any}

pub loop-place-preserved : goal.loop-place-preserved
loop-place-preserved g c =
    let s = g.F.NumberSystem.system in
    let i = c.loop-place.place-index in
    let rest = c.loop-place.left.rest.now in
    let left = c.any.new.self.rest.now in
    let l : i < length c.loop-place.out = omega arith in
    let next = next_mark s _ _ (λ x q k. search (rules, tests)) (λ x q k. search (rules, tests)) c.loop-place.left c.any.new.self c.any.result c.any.ensures.ran in
    elim c.if-any.branch [
      | then-any w ↦
          let here = next.0 w.if-any.true in
          let one_less = here.0 in
          let is = symbol_is s w.locator.result (locator s (length left)) (w.locator.ensures ∙ ap (λ n. (locator s n).code) w.len.ensures.value) in
          record {
            long = omega arith;
            so_far = ap (λ o. symbols s (take (i + 1) o) ++ of_last s left) w.out-is
                ∙ located_more s _ rest left c.loop-place.out i w.locator.result l here.1 is c.loop-place.invariant.so_far;
          }
      | else-any w ↦ absurd (let none = next.1 w.if-any.false in let z : ⊥ = omega arith in z)
    ]

pub returns : goal.returns
returns g c =
    located_all g.F.NumberSystem.system _ c.loop-place.left.rest.now c.loop-place.out c.loop-place.place-index (omega arith) c.loop-place.invariant.long
    c.loop-place.invariant.so_far
