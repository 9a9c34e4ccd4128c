use Rattle.std.proofs.Common.{◌≡◌, arith}
use Rattle.std.proofs.lemmas.Grind.{common_steps}
use Rattle.sector.specs.Answers.{answer_done}
use Rattle.replay.specs.Answers.{answer_of}
use Rattle.replay.proofs.Calls.{applied_read}
use Rattle.replay.proofs.run.apply.Goals as goal

pub returns-in-Read-clause-applied : goal.returns-in-Read-clause-applied
returns-in-Read-clause-applied g c =
    let sector = c.args.sector.now in
    let same : answer_of c.map-in-Read.result ≡ answer_done c.read_part.result = grind (arith, common_steps) in
    applied_read g.F.NumberSystem.system sector.terms (g.S.BlockStore.store sector.store) c.args.memory.now c.read_part.new.memory
    c.args.call.now c.in-Read.row c.in-Read.from c.in-Read.to (answer_done c.read_part.result) (answer_of c.map-in-Read.result)
    c.in-Read.is same c.read_part.ensures
