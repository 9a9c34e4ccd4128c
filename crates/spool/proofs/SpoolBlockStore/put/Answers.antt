use Rattle.std.proofs.Common.{◌≡◌, length, take, Some, sym, refl, ap, ◌∙◌, arith, eqb, ◌<◌}
use Rattle.std.specs.List.{All, IsDistinct}
use Rattle.store.proofs.Replies.{put_done}
use Rattle.spool.specs.Table.{spool_store}
use Rattle.spool.proofs.Table.{stands, absent, room, kept_replaced, kept_pushed, apart_replaced, apart_pushed, store_replaced, store_pushed, order_replaced, order_pushed, still}
use Rattle.spool.proofs.SpoolBlockStore.put.Goals as goal

pub invariant_of-self : goal.invariant_of-self
invariant_of-self c =
    let s = c.self.inside in
    let st = stands s.table.items c.args.place c.in-Some.i (rw c.deref.ensures.value at c.in-Some.ensures) in
    kept_replaced s c.args.place c.in-Some.i _ _ _ c.self.invariant st refl

pub invariant_of-self-inside : goal.invariant_of-self-inside
invariant_of-self-inside c =
    let s = c.self.inside in
    let st = stands s.table.items c.args.place c.in-Some.i (rw c.deref.ensures.value at c.in-Some.ensures) in
    (apart_replaced s c.args.place c.in-Some.i _ st refl, (s.narrow, tt))

pub push_reserved-requires : goal.push_reserved-requires
push_reserved-requires c =
    let s = c.self.inside in
    let len = s.table.ok.0 in
    let none = absent s.table.items c.args.place (rw c.deref.ensures.value at c.in-None.ensures) in
    let r = room s.places c.args.place s.table.items c.if-place-self.false none c.self.invariant.distinct c.self.invariant.below in
    let cap = c.self.invariant.room in
    omega arith

pub invariant_of-self-in-None : goal.invariant_of-self-in-None
invariant_of-self-in-None c =
    let s = c.self.inside in
    let none = absent s.table.items c.args.place (rw c.deref.ensures.value at c.in-None.ensures) in
    kept_pushed s c.push_reserved.new.self c.args.place _ _ _ c.if-place-self.false c.self.invariant none refl c.push_reserved.ensures.items c.push_reserved.ensures.capacity

pub invariant_of-self-inside-in-None : goal.invariant_of-self-inside-in-None
invariant_of-self-inside-in-None c =
    let s = c.self.inside in
    let none = absent s.table.items c.args.place (rw c.deref.ensures.value at c.in-None.ensures) in
    (apart_pushed s _ c.args.place _ c.if-place-self.false c.self.invariant none refl c.push_reserved.ensures.items, (s.narrow, tt))

pub returns-in-Some-clause-after : goal.returns-in-Some-clause-after
returns-in-Some-clause-after c =
    let s = c.self.inside in
    let block = c.args.block.now in
    let st = stands s.table.items c.args.place c.in-Some.i (rw c.deref.ensures.value at c.in-Some.ensures) in
    let wide : length block ≡ s.width = omega arith in
    rw (← c.self.view_is)
    (put_done (spool_store s.places s.width s.table.items) _ c.args.place block c.if-place-self.false wide
    (store_replaced s.places s.width c.args.place c.in-Some.i s.table.items _ (Some block) c.if-place-self.false st refl (ap Some (ap (λ w. take w c.padded.result) (sym wide) ∙ c.padded.ensures.front))))

pub returns-in-Some-clause-order : goal.returns-in-Some-clause-order
returns-in-Some-clause-order c =
    let s = c.self.inside in
    let st = stands s.table.items c.args.place c.in-Some.i (rw c.deref.ensures.value at c.in-Some.ensures) in
    rw (← c.self.view_is) (order_replaced s.places s.width c.args.place c.in-Some.i s.table.items _ c.args.block.now c.if-place-self.false (omega arith) st refl)

pub returns-in-None-clause-after : goal.returns-in-None-clause-after
returns-in-None-clause-after c =
    let s = c.self.inside in
    let block = c.args.block.now in
    let none = absent s.table.items c.args.place (rw c.deref.ensures.value at c.in-None.ensures) in
    let wide : length block ≡ s.width = omega arith in
    rw (← c.self.view_is)
    (put_done (spool_store s.places s.width s.table.items) _ c.args.place block c.if-place-self.false wide
    (store_pushed s.places s.width c.args.place s.table.items _ _ (Some block) c.if-place-self.false none refl (ap Some (ap (λ w. take w c.padded.result) (sym wide) ∙ c.padded.ensures.front)) c.push_reserved.ensures.items))

pub returns-in-None-clause-order : goal.returns-in-None-clause-order
returns-in-None-clause-order c =
    let s = c.self.inside in
    let none = absent s.table.items c.args.place (rw c.deref.ensures.value at c.in-None.ensures) in
    rw (← c.self.view_is) (order_pushed s.places s.width c.args.place s.table.items _ _ c.args.block.now c.if-place-self.false (omega arith) none refl c.push_reserved.ensures.items)

pub returns-in-Some-clause-distinct : goal.returns-in-Some-clause-distinct
returns-in-Some-clause-distinct c =
    let s = c.self.inside in
    let st = stands s.table.items c.args.place c.in-Some.i (rw c.deref.ensures.value at c.in-Some.ensures) in
    still (IsDistinct eqb) s.table.items c.args.place c.in-Some.i _ c.self.invariant.distinct st refl

pub returns-in-Some-clause-below : goal.returns-in-Some-clause-below
returns-in-Some-clause-below c =
    let s = c.self.inside in
    let st = stands s.table.items c.args.place c.in-Some.i (rw c.deref.ensures.value at c.in-Some.ensures) in
    still (All (λ q. q < s.places)) s.table.items c.args.place c.in-Some.i _ c.self.invariant.below st refl

pub returns-in-None-clause-distinct : goal.returns-in-None-clause-distinct
returns-in-None-clause-distinct c =
    let s = c.self.inside in
    let none = absent s.table.items c.args.place (rw c.deref.ensures.value at c.in-None.ensures) in
    (kept_pushed s c.push_reserved.new.self c.args.place _ (apart_pushed s _ c.args.place _ c.if-place-self.false c.self.invariant none refl c.push_reserved.ensures.items) s.narrow c.if-place-self.false c.self.invariant none refl c.push_reserved.ensures.items c.push_reserved.ensures.capacity).distinct
