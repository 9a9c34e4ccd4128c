use Rattle.std.proofs.Common.{◌+◌, ◌-◌, refl, ap, ◌∙◌, arith}
use Rattle.store.proofs.Replies.{clear_done}
use Rattle.image.specs.Cells.{unmarked}
use Rattle.image.specs.Image.{image_store, with_cell, cell_at}
use Rattle.image.proofs.Cells.{part_is_cell, part_of_cell, store_with_cell, length_unmarked}
use Rattle.image.proofs.ImageBlockStore.clear.Goals as goal

pub returns-clause-after : goal.returns-clause-after
returns-clause-after c =
    let w = c.self.inside.width in
    let memory = c.self.inside.memory.now in
    let place = c.args.place in
    let r = c.in_ok-cell.cell in
    let k = r.end - r.start in
    let cell = rw (← c.self.view_is) at c.in_ok-cell.ensures in
    let part = part_is_cell (w + 2) memory c.clear_cell.new.cell place r.start k cell.starts (omega arith)
    ∙ ap (with_cell (w + 2) memory place) (c.clear_cell.ensures ∙ ap unmarked (part_of_cell (w + 2) memory place r.start k cell.starts (omega arith))) in
    rw (← c.self.view_is)
    (clear_done (image_store w memory) _ place cell.there
    (ap (image_store w) part ∙ store_with_cell w memory (unmarked (cell_at (w + 2) memory place)) place r _ cell (length_unmarked w memory place r cell) refl))
