use Rattle.std.proofs.Common.{sym, ap, ◌∙◌}
use Rattle.randomizer.specs.Sequence.{sequence_of}
use Rattle.randomizer.specs.Plain.{good_preset, plain_store}
use Rattle.randomizer.proofs.Layer.{plain_clear}
use Rattle.randomizer.proofs.RandomizerBlockStore.clear.Goals as goal

pub returns-clause-after : goal.returns-clause-after
returns-clause-after g c =
    let s = c.self.inside in
    let good = good_preset s.preset in
    let q = sequence_of s.preset in
    rw (← c.self.view_is)
    (ap (plain_store good q) c.clear.ensures.after ∙ plain_clear good q (g.S.BlockStore.store s.inner) c.args.place (sym c.if-not-is_preset.ensures))
