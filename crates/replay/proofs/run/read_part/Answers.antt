use Rattle.sector.specs.Answers.{answer_done}
use Rattle.replay.proofs.Calls.{read_there, read_none}
use Rattle.replay.proofs.run.read_part.Goals as goal

pub returns-then-to-memory : goal.returns-then-to-memory
returns-then-to-memory g c =
    let sector = c.args.sector.now in
    read_there g.F.NumberSystem.system sector.terms (g.S.BlockStore.store sector.store) c.args.memory.now c.read.new.buffer
    c.args.row c.args.from c.args.to (answer_done c.read.result) c.if-from-to.true c.if-to-memory.true c.read.ensures

pub returns-else-from-to : goal.returns-else-from-to
returns-else-from-to g c =
    let sector = c.args.sector.now in
    read_none g.F.NumberSystem.system sector.terms (g.S.BlockStore.store sector.store) c.args.memory.now c.read-else-from-to.new.buffer
    c.args.row c.args.from c.args.to (answer_done c.read-else-from-to.result) c.else-from-to.either c.read-else-from-to.ensures
