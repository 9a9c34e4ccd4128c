use Rattle.std.proofs.Common.{take}
use Rattle.replay.specs.Promise.{terms_of, shared}
use Rattle.replay.proofs.WholeRun.{promise_kept, terms_are}
use Rattle.replay.proofs.Cuts.{cut_long}
use Rattle.replay.proofs.run.run.Goals as goal

pub returns : goal.returns
returns g c =
    let s = g.F.NumberSystem.system in
    let t = terms_of c.args.layout c.args.pair in
    let writes = c.args.writes.now in
    let calls = c.args.calls.now in
    let n = shared writes c.args.write_replies.now in
    let m = shared calls c.args.replies.now in
    let new-writes = c.write_all.new.replies in
    let new-calls = c.run_calls.new.replies in
    let opened = c.open-sector.result.0 in
    let marks = c.write_all.new.sector in
    let closed = c.close-closed.result in
    let so =
    promise_kept s t g.S.BlockStore.store opened.terms marks.terms closed.terms
    (terms_are opened.terms c.args.layout c.args.pair c.open-sector.ensures.terms.0 c.open-sector.ensures.terms.1)
    c.write_all.ensures.terms c.close-closed.ensures.terms (take n writes) (take m calls) opened.marks marks.marks c.args.memory.now c.run_calls.new.memory
    (take n new-writes) (take m new-calls) c.open-sector.ensures.marks
    (cut_long writes c.args.write_replies.now new-writes c.write_all.auto.replies) (cut_long calls c.args.replies.now new-calls c.run_calls.auto.replies)
    c.args.store opened.store marks.store closed.store c.run_calls.new.sector.store c.into_store.result
    c.open-sector.ensures.store c.into_store.ensures c.write_all.ensures.marks c.close-closed.ensures.after c.run_calls.ensures.ran in
    record { promise = so.fit; unfit = so.unfit; rest = (c.write_all.ensures.rest, c.run_calls.ensures.rest) }
