use Rattle.std.proofs.Common.{◌≡◌, take, Some, None, sym, refl, ap, ◌∙◌, arith}
use Rattle.std.specs.Option.{option_map, option_and_then}
use Rattle.store.proofs.Replies.{get_done}
use Rattle.spool.specs.Table.{lookup, held, spool_store}
use Rattle.spool.proofs.Table.{stands, absent, found, store_at}
use Rattle.spool.proofs.SpoolBlockStore.get.Goals as goal

pub returns-in_default : goal.returns-in_default
returns-in_default c =
    let s = c.self.inside in
    let none = absent s.table.items c.args.place (rw c.deref.ensures.value at c.in_default.ensures) in
    let d = get_done (spool_store s.places s.width s.table.items) c.args.place c.args.buffer.now _ _ None c.if-place-self.false (omega arith)
    (store_at s.places s.width c.args.place s.table.items None c.if-place-self.false (ap (option_and_then (held s.width)) none.nowhere)) refl refl in
    rw (← c.self.view_is) (record { reply = d.0; after = d.1 })

pub returns-in_default-block : goal.returns-in_default-block
returns-in_default-block c =
    let s = c.self.inside in
    let x = c.index.result.now in
    let st = stands s.table.items c.args.place c.in-Some.i (rw c.deref.ensures.value at c.in-Some.ensures) in
    let e : lookup s.width s.table.items c.args.place ≡ None =
    found s.width c.args.place c.in-Some.i s.table.items x st ∙ ap (held s.width) (sym c.index.ensures) ∙ ap (option_map (take s.width)) c.in_default-block.is in
    let d = get_done (spool_store s.places s.width s.table.items) c.args.place c.args.buffer.now _ _ None c.if-place-self.false (omega arith)
    (store_at s.places s.width c.args.place s.table.items None c.if-place-self.false e) refl refl in
    rw (← c.self.view_is) (record { reply = d.0; after = d.1 })

pub returns : goal.returns
returns c =
    let s = c.self.inside in
    let x = c.index.result.now in
    let b = take s.width c.in-Some-block.block in
    let st = stands s.table.items c.args.place c.in-Some.i (rw c.deref.ensures.value at c.in-Some.ensures) in
    let e : lookup s.width s.table.items c.args.place ≡ Some b =
    found s.width c.args.place c.in-Some.i s.table.items x st ∙ ap (held s.width) (sym c.index.ensures) ∙ ap (option_map (take s.width)) c.in-Some-block.is in
    let d = get_done (spool_store s.places s.width s.table.items) c.args.place c.args.buffer.now _ _ (Some b) c.if-place-self.false (omega arith)
    (store_at s.places s.width c.args.place s.table.items (Some b) c.if-place-self.false e) refl c.copy_from_slice.ensures.after in
    rw (← c.self.view_is) (record { reply = d.0; after = d.1 })
