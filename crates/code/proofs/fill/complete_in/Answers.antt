use Rattle.std.proofs.Common.{length, sym, ap, ◌∙◌, subst, arith}
use Rattle.field.specs.Systems.{Symbol}
use Rattle.code.specs.Equations.{Distinct}
use Rattle.code.specs.Erasures.{blanked, locators}
use Rattle.code.proofs.Distance.{distinct_picked, distinct_locators}
use Rattle.code.proofs.Completion.{completed}
use Rattle.code.proofs.fill.complete_in.Goals as goal

pub solve-requires : goal.solve-requires
solve-requires g c =
    let s = g.F.NumberSystem.system in
    let bs = c.args.unknown.now in (
      omega arith,
      subst (λ l. Distinct {A = Symbol s.order} l) (sym c.write_locators.ensures) (distinct_picked bs (locators s (length bs)) (distinct_locators s (length bs) (omega arith))),
    )

pub returns : goal.returns
returns g c =
    let bs = c.args.unknown.now in
    completed g.F.NumberSystem.system bs c.args.symbols.now c.blank.new.symbols c.write_locators.new.out c.write_wanted.new.out
    c.solve.new.sums c.put_values.new.out c.requires.fits.0 (c.blank.ensures ∙ ap (blanked 0 bs) c.copy_from_slice.ensures.after) c.write_locators.ensures
    (omega arith) (omega arith) (omega arith) c.write_wanted.ensures c.solve.ensures c.put_values.ensures
