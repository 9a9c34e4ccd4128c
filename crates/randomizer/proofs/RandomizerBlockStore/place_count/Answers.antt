use Rattle.randomizer.specs.Plain.{good_preset}
use Rattle.randomizer.proofs.Layer.{plain_sound}
use Rattle.randomizer.proofs.RandomizerBlockStore.place_count.Goals as goal

pub returns-then-is_preset-clause-sound : goal.returns-then-is_preset-clause-sound
returns-then-is_preset-clause-sound g c =
    let s = c.self.inside in
    rw (← c.self.view_is) (plain_sound (good_preset s.preset) s.preset (g.S.BlockStore.store s.inner) c.place_count.ensures.sound)
