use Rattle.window.proofs.Places.{window_sound}
use Rattle.window.proofs.WindowBlockStore.place_count.Goals as goal

pub returns-clause-sound : goal.returns-clause-sound
returns-clause-sound g c = rw (← c.self.view_is) (window_sound c.self.inside.first c.self.inside.count _ c.place_count.ensures.sound)
