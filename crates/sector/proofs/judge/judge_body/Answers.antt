use Rattle.std.proofs.Common.{ap}
use Rattle.grid.specs.declared.shape.Shape.{Shape}
use Rattle.sector.proofs.Judging.{body_judged}
use Rattle.sector.proofs.judge.judge_body.Goals as goal

pub returns : goal.returns
returns g c =
    body_judged g.F.NumberSystem.system c.args.terms.now.layout c.args.body.now c.correct_row.new.row c.requires.0 c.requires.1
    c.shape-checks.result.check_bytes c.correct_row.result c.condition_of.result (ap (λ (sh : Shape). sh.check_bytes) c.shape-checks.ensures)
    c.correct_row.ensures c.condition_of.ensures
