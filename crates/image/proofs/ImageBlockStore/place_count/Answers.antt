use Rattle.image.proofs.Cells.{image_sound}
use Rattle.image.proofs.ImageBlockStore.place_count.Goals as goal

pub returns-clause-sound : goal.returns-clause-sound
returns-clause-sound c = rw (← c.self.view_is) (image_sound c.self.inside.width c.self.inside.memory.now c.places_in.ensures.bytes)
