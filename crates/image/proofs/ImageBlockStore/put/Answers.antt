use Rattle.std.proofs.Common.{◌+◌, ◌-◌, refl, ap, ◌∙◌, arith}
use Rattle.store.proofs.Replies.{put_done}
use Rattle.image.specs.Cells.{marked}
use Rattle.image.specs.Image.{image_store, with_cell}
use Rattle.image.proofs.Cells.{part_is_cell, store_with_cell}
use Rattle.image.proofs.ImageBlockStore.put.Goals as goal

pub returns-clause-after : goal.returns-clause-after
returns-clause-after c =
    let w = c.self.inside.width in
    let memory = c.self.inside.memory.now in
    let place = c.args.place in
    let block = c.args.block.now in
    let r = c.in_ok-cell.cell in
    let cell = rw (← c.self.view_is) at c.in_ok-cell.ensures in
    let part = part_is_cell (w + 2) memory c.write_cell.new.cell place r.start (r.end - r.start) cell.starts (omega arith)
    ∙ ap (with_cell (w + 2) memory place) c.write_cell.ensures in
    rw (← c.self.view_is)
    (put_done (image_store w memory) _ place block cell.there (omega arith)
    (ap (image_store w) part ∙ store_with_cell w memory (marked block) place r _ cell (omega arith) refl))
