use Rattle.std.proofs.Common.{ap, ◌∙◌}
use Rattle.window.specs.Window.{windowed}
use Rattle.window.proofs.Places.{window_clear}
use Rattle.window.proofs.WindowBlockStore.clear.Goals as goal

pub returns-clause-after : goal.returns-clause-after
returns-clause-after g c =
    let s = c.self.inside in
    let below = rw (← c.self.view_is) at c.in_ok-place.ensures in
    rw (← c.self.view_is)
    (ap (windowed s.first s.count) c.clear.ensures.after
    ∙ window_clear s.first s.count (g.S.BlockStore.store s.inner) c.args.place c.in_ok-place.place below)
