use Rattle.std.proofs.Common.{◌≡◌, suc, ◌+◌, [], ◌∷◌, ◌++◌, take, subst, arith}
use Rattle.recorder.specs.Orders.{IsOrder}
use Rattle.tag.proofs.Lists.{Contains-slice_get}
use Rattle.witness_order.specs.RecordOrders.{AreOrdersOf}
use Rattle.witness_order.proofs.Zips.{AllZip-next}
use Rattle.witness_order.proofs.record_orders.key_orders.Goals as goal

pub key_order-requires : goal.key_order-requires
key_order-requires c =
    let entries = c.args.parts.now.entries in
    c.requires c.entry-key.result.0 c.entry-key.result.1 (Contains-slice_get entries c.loop-place.place c.entry-key.result c.entry-key.ensures)

pub loop-place-preserved : goal.loop-place-preserved
loop-place-preserved c =
    let l = c.loop-place in
    let entries = c.args.parts.now.entries in
    let order = c.in_ok-key_order.field-0 in
    let one : suc l.place ≡ l.place + 1 = omega arith in
    let more : AreOrdersOf (take (suc l.place) entries) (l.orders.items ++ order ∷ []) =
    AllZip-next (λ part o. (o.key ≡ part.0) × IsOrder part.1 o.order) entries l.orders.items l.place c.entry-key.result order c.entry-key.ensures l.invariant (rw c.key.ensures at c.in_ok-key_order.ensures) in
    rw c.in_ok-push.ensures.items (subst (λ n. AreOrdersOf (take n entries) (l.orders.items ++ order ∷ [])) one more)
