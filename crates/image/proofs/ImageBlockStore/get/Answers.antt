use Rattle.std.proofs.Common.{◌-◌, arith}
use Rattle.store.proofs.Replies.{get_done}
use Rattle.image.specs.Image.{image_store}
use Rattle.image.proofs.Cells.{block_of_cell}
use Rattle.image.proofs.ImageBlockStore.get.Goals as goal

pub returns : goal.returns
returns c =
    let w = c.self.inside.width in
    let memory = c.self.inside.memory.now in
    let place = c.args.place in
    let r = c.in_ok-cell.cell in
    let cell = rw (← c.self.view_is) at c.in_ok-cell.ensures in
    let d = get_done (image_store w memory) place c.args.buffer.now c.read_cell.new.buffer c.read_cell.result _ cell.there (omega arith)
    (block_of_cell w memory place (r.end - r.start) r cell (omega arith)) c.read_cell.ensures.held c.read_cell.ensures.after in
    rw (← c.self.view_is) (record { reply = d.0; after = d.1 })
