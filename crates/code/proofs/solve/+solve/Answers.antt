use Rattle.std.proofs.Common.{◌≡◌, ◌∷◌, length, sym, ap, subst, arith}
use Rattle.code.specs.Codewords.{symbols}
use Rattle.code.specs.Equations.{Distinct}
use Rattle.code.specs.Solving.{Solved}
use Rattle.code.proofs.SolverLevel.{level}
use Rattle.code.proofs.solve.+solve.Goals as goal

pub returns-in-Some-split_first_mut : goal.returns-in-Some-split_first_mut
returns-in-Some-split_first_mut g t c =
    let s = g.F.NumberSystem.system in
    let xs = c.in-Some.rest.now in
    let old = c.in-Some-split_first_mut.others.now in
    let x = c.in-Some.field-0-0.now in
    let el = c.in-Some.ensures.cases.0 in
    let es = c.in-Some-split_first_mut.ensures.cases.0 in
    let ll = ap length el in
    let ls = ap length es in
    let lo : length old ≡ length xs = omega arith in
    let ld : length c.eliminate.new.others ≡ length xs = omega arith in
    let le : length c.solve.new.sums ≡ length xs = omega arith in
    let lf : length c.divide.new.values ≡ length xs = omega arith in
    let new = c.sub.result ∷ c.divide.new.values in
    subst (λ l. Solved s l c.args.sums.now new) (sym el)
    (subst (λ l. Solved s (x ∷ xs) l new) (sym es)
    (level s x c.in-Some-split_first_mut.first.now xs old c.eliminate.new.others c.solve.new.sums c.divide.new.values c.total.result c.sub.result
    (subst (λ l. Distinct (symbols s l)) el c.requires.1) lo ld le lf c.eliminate.ensures c.solve.ensures c.divide.ensures c.total.ensures c.sub.ensures))
