use Rattle.std.proofs.Common.{◌≡◌, ℕ, ◌*◌, ◌<◌, take, drop}
use Rattle.store.specs.Store.{at}
use Rattle.block.specs.Layouts.{data_bytes, body_bytes}
use Rattle.sector.specs.Opening.{open_data}
use Rattle.sector.proofs.gather.gather_rows.Given as goal

abbrev pub invariant-loop-r : goal.invariant-loop-r
invariant-loop-r g l =
    (k : ℕ) → k < l.r → take (data_bytes l.layout) (drop (k * body_bytes l.layout) l.flat) ≡ open_data l.layout l.marks (at (g.S.BlockStore.store l.store)) k
