use Rattle.std.proofs.Common.{◌-◌, ◌++◌, length, ◌∙◌, arith}
use borrow.Rule.Slice.PartMut.{post_of}
use Rattle.block.specs.Layouts.{data_bytes}
use Rattle.sector.proofs.OneRow.{front_written, made_body}
use Rattle.sector.proofs.rows.make_body.Goals as goal

pub returns : goal.returns
returns g c =
    let s = g.F.NumberSystem.system in
    let l = c.args.layout in
    let bytes = c.args.bytes.now in
    let pre = c.requires in
    let f = front_written (data_bytes l) bytes c.args.body.now c.copy_from_slice.new.self (length bytes - 0) c.copy_from_slice.ensures.after c.requires.0 (omega arith) (omega arith) in
    let made =
    made_body s l bytes (c.copy_from_slice.new.self ++ post_of 0 (length bytes - 0) c.args.body.now) c.encode_rows.new.bytes (f.1 ∙ c.requires.1.0) f.0 c.are_bytes.ensures
    (λ i. (c.type_inv.body i).fits) c.shape-shape.result c.shape-shape.ensures c.requires.1.1.0 c.requires.1.1.1 c.encode_rows.result c.encode_rows.ensures.reply c.encode_rows.ensures.after
    in
    record { is = made.0; front = made.1 }
