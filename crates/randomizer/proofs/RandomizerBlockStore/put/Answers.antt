use Rattle.std.proofs.Common.{◌≡◌, true, ap, ◌∙◌, arith}
use Rattle.store.specs.Store.{put_after}
use Rattle.randomizer.specs.Sequence.{mixed, sequence_of}
use Rattle.randomizer.specs.Plain.{good_preset, plain_store}
use Rattle.randomizer.proofs.Layer.{good_there, plain_put}
use Rattle.randomizer.proofs.RandomizerBlockStore.put.Goals as goal

pub returns-clause-after : goal.returns-clause-after
returns-clause-after g c =
    let s = c.self.inside in
    let good = good_preset s.preset in
    let q = sequence_of s.preset in
    let below = g.S.BlockStore.store s.inner in
    let block = c.args.block.now in
    let part : c.randomize.new.block ≡ mixed q block =
    c.randomize.ensures.mixed ∙ ap (λ r. mixed r c.copy_from_slice.new.self) c.self.invariant ∙ ap (mixed q) c.copy_from_slice.ensures.after in
    let places = rw (← c.self.view_is) at c.place_count.ensures.places in
    let t : good ≡ true = good_there good q below c.args.place (omega arith) in
    rw (← c.self.view_is)
    (ap (plain_store good q) (c.put.ensures.after ∙ ap (put_after below c.args.place) part) ∙ plain_put good q below c.args.place block t)
