use Rattle.std.proofs.Common.{None, refl, eqb, ◌<◌}
use Rattle.std.specs.List.{All, IsDistinct}
use Rattle.store.proofs.Replies.{clear_done}
use Rattle.spool.specs.Table.{spool_store}
use Rattle.spool.proofs.Table.{stands, absent, kept_replaced, apart_replaced, store_replaced, store_blank, places_replaced, still}
use Rattle.spool.proofs.SpoolBlockStore.clear.Goals as goal

pub invariant_of-self : goal.invariant_of-self
invariant_of-self c =
    let s = c.self.inside in
    let st = stands s.table.items c.args.place c.in-Some.i (rw c.deref.ensures.value at c.in-Some.ensures) in
    kept_replaced s c.args.place c.in-Some.i _ _ _ c.self.invariant st refl

pub invariant_of-self-inside : goal.invariant_of-self-inside
invariant_of-self-inside c =
    let s = c.self.inside in
    let st = stands s.table.items c.args.place c.in-Some.i (rw c.deref.ensures.value at c.in-Some.ensures) in
    (apart_replaced s c.args.place c.in-Some.i _ st refl, (s.narrow, tt))

pub returns-in-Some-clause-after : goal.returns-in-Some-clause-after
returns-in-Some-clause-after c =
    let s = c.self.inside in
    let st = stands s.table.items c.args.place c.in-Some.i (rw c.deref.ensures.value at c.in-Some.ensures) in
    rw (← c.self.view_is)
    (clear_done (spool_store s.places s.width s.table.items) _ c.args.place c.if-place-self.false
    (store_replaced s.places s.width c.args.place c.in-Some.i s.table.items _ None c.if-place-self.false st refl refl))

pub returns-in-Some-clause-order : goal.returns-in-Some-clause-order
returns-in-Some-clause-order c =
    let s = c.self.inside in
    let st = stands s.table.items c.args.place c.in-Some.i (rw c.deref.ensures.value at c.in-Some.ensures) in
    rw (← c.self.view_is) (places_replaced s.table.items c.args.place c.in-Some.i _ st refl)

pub returns-in_default-clause-after : goal.returns-in_default-clause-after
returns-in_default-clause-after c =
    let s = c.self.inside in
    let none = absent s.table.items c.args.place (rw c.deref.ensures.value at c.in_default.ensures) in
    rw (← c.self.view_is)
    (clear_done (spool_store s.places s.width s.table.items) _ c.args.place c.if-place-self.false
    (store_blank s.places s.width c.args.place s.table.items c.if-place-self.false none))

pub returns-in-Some-clause-distinct : goal.returns-in-Some-clause-distinct
returns-in-Some-clause-distinct c =
    let s = c.self.inside in
    let st = stands s.table.items c.args.place c.in-Some.i (rw c.deref.ensures.value at c.in-Some.ensures) in
    still (IsDistinct eqb) s.table.items c.args.place c.in-Some.i _ c.self.invariant.distinct st refl

pub returns-in-Some-clause-below : goal.returns-in-Some-clause-below
returns-in-Some-clause-below c =
    let s = c.self.inside in
    let st = stands s.table.items c.args.place c.in-Some.i (rw c.deref.ensures.value at c.in-Some.ensures) in
    still (All (λ q. q < s.places)) s.table.items c.args.place c.in-Some.i _ c.self.invariant.below st refl
