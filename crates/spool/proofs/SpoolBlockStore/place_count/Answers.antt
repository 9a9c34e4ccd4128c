use Rattle.spool.proofs.Table.{spool_sound}
use Rattle.spool.proofs.SpoolBlockStore.place_count.Goals as goal

pub returns-clause-sound : goal.returns-clause-sound
returns-clause-sound c = let s = c.self.inside in rw (← c.self.view_is) (spool_sound s.places s.width s.table.items c.self.invariant.narrow)
