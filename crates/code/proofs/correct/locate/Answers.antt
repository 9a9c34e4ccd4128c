use Rattle.code.proofs.SingleErrors.{located, not_located}
use Rattle.code.proofs.correct.locate.Goals as goal

pub returns-then-not-is_geometric : goal.returns-then-not-is_geometric
returns-then-not-is_geometric g c =
    not_located g.F.NumberSystem.system c.args.syndromes.now c.requires.two c.requires.small c.requires.some c.args.n c.inv.result c.mul-x.result c.inv.ensures
    c.mul-x.ensures c.if-not-is_geometric.ensures

pub returns : goal.returns
returns g c =
    located g.F.NumberSystem.system c.args.syndromes.now c.requires.two c.requires.small c.requires.some c.args.n c.inv.result c.mul-x.result c.position_of.result c.inv.ensures
    c.mul-x.ensures c.if-not-is_geometric.ensures c.position_of.ensures
